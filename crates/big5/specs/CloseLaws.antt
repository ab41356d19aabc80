-- The close is what the Standard's decoder does at the end of its queue: an error drops the machine out, as a cut, and where it
-- is finished the record and the score stay as they were.
use Rattle.std.specs.Prelude.{◌≡◌, List, [], ℕ, eqb}
use Rattle.std.proofs.Common.{sym}
use Rattle.laws.specs.Handler.{end_of_queue, error, finished}
use Rattle.laws.specs.declared.Reason.TheVariants.{CutAtClose}
use Rattle.laws.specs.Tests.{through}
use Rattle.laws.specs.Validator.{outcome_by}
use Rattle.pairs.specs.Standard.{CodePoints, handler}
use Rattle.big5_decoder.specs.Standard.{layout, points_of}
use Rattle.big5.specs.Big5.{close_of}
use Rattle.big5.specs.declared.Big5.{Big5}

-- the record with another lead
abbrev pub with_lead : Big5 → ℕ → Big5
with_lead m lead = record { lead = lead; prev = m.prev; prev_byte = m.prev_byte; held = m.held }

pub close_agrees : (index : List ℕ) (m : Big5) → close_of m ≡ outcome_by (with_lead m) CutAtClose (handler layout (points_of index) m.lead end_of_queue)
unfolding outcome_by
close_agrees index m = sym (through (outcome_by {P = CodePoints} (with_lead m) CutAtClose) (eqb m.lead 0) (finished m.lead) (error [] 0))
