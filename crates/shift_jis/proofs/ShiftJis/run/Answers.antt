-- `ShiftJis::run` meets its contract.
use Rattle.std.proofs.Common.{◌≡◌, true, sym, ◌∙◌}
use Rattle.laws.specs.Answer.{if_fit, if_unfit}
use Rattle.entries.specs.Ready.{ready_b, ready_true}
use Rattle.lengths.specs.Lengths.{jis_count}
use Rattle.shift_jis.specs.ShiftJis.{ran_of, sound_b}
use Rattle.shift_jis.specs.ShiftJisLaws.{sound_true}
use Rattle.shift_jis.proofs.ShiftJis.run.Goals as goal
use Rattle.shift_jis.proofs.ShiftJis.run.Goals.{Then-is_ready}

-- what the test says of the record
passed : (c : Then-is_ready) → ready_b (sound_b c.args.self) jis_count c.args.index.now c.args.part.now ≡ true
passed c = rw c.is_sound.ensures at (sym c.is_ready.ensures ∙ c.if-is_ready.true)

pub run_fit-requires : goal.run_fit-requires
run_fit-requires c =
    let r = ready_true _ _ _ _ (sound_true c.args.self) (passed (goal.at.run_fit-requires c).Then-is_ready) in
    (r.sound, r.sized)

pub returns-then-is_ready : goal.returns-then-is_ready
unfolding ran_of
returns-then-is_ready c = c.run_fit.ensures ∙ sym (if_fit _ _ (passed (goal.at.returns-then-is_ready c).Then-is_ready))

pub returns : goal.returns
unfolding ran_of
returns c = sym (if_unfit _ _ (rw c.is_sound.ensures at (sym c.is_ready.ensures ∙ c.if-is_ready.false)))
