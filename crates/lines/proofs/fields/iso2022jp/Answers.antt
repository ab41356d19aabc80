-- `iso2022jp` meets its contract.
use Rattle.scribe.specs.LentLaws.{with_both}
use Rattle.lines.specs.Fields.{iso2022jp_text}
use Rattle.lines.proofs.fields.iso2022jp.Goals as goal

pub returns : goal.returns
unfolding iso2022jp_text
returns c = with_both _ _ _ (with_both _ _ _ (with_both _ _ _ (with_both _ _ _ (with_both _ _ _ c.word.ensures c.decoder_state.ensures) c.word-2.ensures) c.output_state.ensures) c.hex.ensures) c.flag.ensures
