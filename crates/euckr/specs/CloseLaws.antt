-- The close is what the Standard's decoder does at the end of its queue: an error drops the machine out, as a cut, and where it
-- is finished the record and the score stay as they were.
use Rattle.std.specs.Prelude.{◌≡◌, List, [], ℕ, eqb}
use Rattle.std.proofs.Common.{sym}
use Rattle.laws.specs.Handler.{end_of_queue, error, finished}
use Rattle.laws.specs.declared.Reason.TheVariants.{CutAtClose}
use Rattle.laws.specs.Tests.{through}
use Rattle.laws.specs.Validator.{outcome_by}
use Rattle.pairs.specs.Standard.{CodePoints, handler}
use Rattle.euckr_decoder.specs.Standard.{layout, points_of}
use Rattle.euckr.specs.EucKr.{close_of}
use Rattle.euckr.specs.declared.EucKr.{EucKr}

-- the record with another lead
abbrev pub with_lead : EucKr → ℕ → EucKr
with_lead m lead = record { lead = lead; prev_byte = m.prev_byte; prev_was_euc_range = m.prev_was_euc_range; prev = m.prev; current_word_len = m.current_word_len; held = m.held }

pub close_agrees : (index : List ℕ) (m : EucKr) → close_of m ≡ outcome_by (with_lead m) CutAtClose (handler layout (points_of index) m.lead end_of_queue)
unfolding outcome_by
close_agrees index m = sym (through (outcome_by {P = CodePoints} (with_lead m) CutAtClose) (eqb m.lead 0) (finished m.lead) (error [] 0))
