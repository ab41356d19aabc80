-- `pair` meets its contract.
use mathlib.Core.Path.{sym, ◌∙◌}
use Rattle.big5_decoder.specs.SpecialsLaws.{at_1133, at_1135, at_1164, at_1166, not_special}
use Rattle.big5_decoder.specs.Ways.{no_pair, pair_two, pair_entry}
use Rattle.big5_decoder.proofs.pair.Goals as goal

pub returns-in-1133 : goal.returns-in-1133
returns-in-1133 c =
    let s = c in
    let a = c.pointer-at in
    pair_two s.args.index.now s.args.lead s.args.b a.result (sym c.is_trail.ensures ∙ c.if-is_trail.true) a.ensures 1133 0xCA 0x304 c.in-1133.is at_1133

pub returns-in-1135 : goal.returns-in-1135
returns-in-1135 c =
    let s = c in
    let a = c.pointer-at in
    pair_two s.args.index.now s.args.lead s.args.b a.result (sym c.is_trail.ensures ∙ c.if-is_trail.true) a.ensures 1135 0xCA 0x30C c.in-1135.is at_1135

pub returns-in-1164 : goal.returns-in-1164
returns-in-1164 c =
    let s = c in
    let a = c.pointer-at in
    pair_two s.args.index.now s.args.lead s.args.b a.result (sym c.is_trail.ensures ∙ c.if-is_trail.true) a.ensures 1164 0xEA 0x304 c.in-1164.is at_1164

pub returns-in-1166 : goal.returns-in-1166
returns-in-1166 c =
    let s = c in
    let a = c.pointer-at in
    pair_two s.args.index.now s.args.lead s.args.b a.result (sym c.is_trail.ensures ∙ c.if-is_trail.true) a.ensures 1166 0xEA 0x30C c.in-1166.is at_1166

pub returns-in_default : goal.returns-in_default
returns-in_default c =
    let s = c in
    let a = c.pointer-at in
    let r = c.in_default.in_default-own.rest in
    c.looked_up.ensures ∙ pair_entry s.args.index.now s.args.lead s.args.b a.result (sym c.is_trail.ensures ∙ c.if-is_trail.true) a.ensures (not_special a.result r.0.0.0.1 r.0.0.1 r.0.1 r.1)

pub returns : goal.returns
returns c =
    let s = c in
    c.malformed.ensures ∙ no_pair s.args.index.now s.args.lead s.args.b (sym c.is_trail.ensures ∙ c.if-is_trail.false)
