-- `EucKr::error` meets its contract.
use mathlib.Core.Path.{◌≡◌, sym, ap, ◌∙◌}
use mathlib.Core.Bool.{true, false}
use native.Mathlib.Omega.{arith}
use Rattle.laws.specs.Sizes.{thru64}
use Rattle.weights.specs.Weights.{term}
use Rattle.euckr.specs.Scoring.{hanja_of, other_of, is_user_pair, is_mac_symbol, after_byte, error_of}
use Rattle.euckr.proofs.EucKr.error.Goals as goal

pub returns-then-is_user_pair : goal.returns-then-is_user_pair
unfolding error_of
returns-then-is_user_pair c =
    let s = c in
    let p : is_user_pair s.args.self.prev_byte s.args.b ≡ true = sym c.is_user_pair.ensures ∙ c.if-is_user_pair.true in
    rw p (c.after_byte.ensures _ ∙ ap (after_byte s.args.lead s.args.b) (c.hanja.ensures ∙ ap (hanja_of s.args.w s.args.self) (thru64 s.args.w.pua term s.requires.small_scale.pua (omega arith))))

pub returns-then-is_mac_symbol : goal.returns-then-is_mac_symbol
unfolding error_of
returns-then-is_mac_symbol c =
    let s = c in
    let p : is_user_pair s.args.self.prev_byte s.args.b ≡ false = sym c.is_user_pair.ensures ∙ c.if-is_user_pair.false in
    let q : is_mac_symbol s.args.self.prev_byte s.args.b ≡ true = sym c.is_mac_symbol.ensures ∙ c.if-is_mac_symbol.true in
    rw (p, q) (c.after_byte-then-is_mac_symbol.ensures _ ∙ ap (after_byte s.args.lead s.args.b) (c.other.ensures ∙ ap (other_of s.args.self) (thru64 s.args.w.mac term s.requires.small_scale.mac (omega arith))))

pub returns : goal.returns
unfolding error_of
returns c =
    let s = c in
    let p : is_user_pair s.args.self.prev_byte s.args.b ≡ false = sym c.is_user_pair.ensures ∙ c.if-is_user_pair.false in
    let q : is_mac_symbol s.args.self.prev_byte s.args.b ≡ false = sym c.is_mac_symbol.ensures ∙ c.if-is_mac_symbol.false in
    rw (p, q) c.stray.ensures
