-- What is counted. Counts are of 64 bits.
use Rattle.std.specs.Prelude.{ℕ, ◌+◌, ◌%◌, ◌^◌, Bool, true, cond, not, ◌&&◌, ◌||◌, ◌==◌}
use Rattle.laws.specs.declared.Reason.{Reason}
use Rattle.laws.specs.declared.Reason.TheVariants.{Class255, BadByte, BadSecondByte, BrokenEscape, CutAtClose, NotInSlate}
use Rattle.tally.specs.declared.Verdict.{Verdict}
use Rattle.tally.specs.declared.Counts.{Counts}

-- ---- what comes of a byte string, by numbers: 0 whole, 1 cut, 2 a bad byte, 3 a broken escape, 4 not fit
abbrev pub verdict : ℕ → ℕ → Verdict
verdict code at = record { code = code; at = at }

-- a machine that dropped out
unfoldable pub dropped_of : Reason → ℕ → Verdict
dropped_of BadByte at = verdict 2 at
dropped_of BrokenEscape at = verdict 3 at
dropped_of CutAtClose at = verdict 1 at
dropped_of Class255 at = verdict 4 at
dropped_of BadSecondByte at = verdict 4 at
dropped_of NotInSlate at = verdict 4 at

abbrev pub is_none : ℕ → Bool
is_none code = code == 2 || code == 3

abbrev pub same_b : Verdict → Verdict → Bool
same_b v w = v.code == w.code && v.at == w.at

-- ---- counts
abbrev pub nothing : Counts
nothing = record { all = 0; whole = 0; cut = 0; none = 0; differ = 0 }

-- one more where the test holds
abbrev pub up_of : ℕ → Bool → ℕ
up_of n t = cond t ((n + 1) % 2 ^ 64) n

abbrev pub counted_of : Counts → Verdict → Verdict → Counts
counted_of c found expected =
    record { all = up_of c.all true; whole = up_of c.whole (found.code == 0); cut = up_of c.cut (found.code == 1); none = up_of c.none (is_none found.code); differ = up_of c.differ (not (same_b found expected)) }
