-- What ISO-2022-JP forgets: text, which is ASCII but for shift out, shift in and the escape, leaves the record fresh.
use Rattle.std.proofs.Math.Path.{refl}
use Rattle.std.specs.Prelude.{List, ℕ}
use Rattle.laws.specs.Memory.{Forgets, Quiet}
use Rattle.laws.proofs.Forgets.{forgets}
use Rattle.iso2022jp.specs.Iso2022Jp.{Passes, fresh, is_text, step_of}
use Rattle.iso2022jp.specs.Iso2022JpLaws.{text_passes, fresh_sound}

module _ (index : List ℕ) where
  pub iso2022jp_quiet : Quiet is_text (step_of index) (λ (k : Unit {0}). fresh) (λ k b. k)
  unfolding Passes
  iso2022jp_quiet = record { steps = λ k b e. text_passes fresh b fresh_sound refl refl e index; forgotten = λ k l a b. refl }

  pub iso2022jp_forgets : Forgets is_text (step_of index) fresh
  iso2022jp_forgets = forgets iso2022jp_quiet tt
