-- What holds of the saved context after any sequence of pushes.
use Rattle.std.specs.Prelude.{◌≡◌, ℕ}
use Rattle.std.proofs.Common.{sym, ap, ◌∙◌}
use mathlib.Core.List.{List, [], ◌∷◌, ◌++◌, append-nil, append_assoc, flatten}
use Rattle.laws.specs.Lists.{last}
use Rattle.context.specs.declared.Context.{Context}
use Rattle.context.specs.Context.{context_of, pushes_of}
use Rattle.context.specs.ContextLaws.{push_context}

pushes_context : (xs : List ℕ) (chunks : List (List ℕ)) → pushes_of (context_of (last 2 xs)) chunks ≡ context_of (last 2 (xs ++ flatten chunks))
unfolding pushes_of flatten
pushes_context xs [] = ap (λ (l : List ℕ). context_of (last 2 l)) (sym (append-nil xs))
pushes_context xs (y ∷ ys) =
    ap (λ (c : Context). pushes_of c ys) (push_context xs y) ∙ (pushes_context (xs ++ y) ys ∙ ap (λ (l : List ℕ). context_of (last 2 l)) (append_assoc xs y (flatten ys)))

-- After any sequence of pushes the context is the last two bytes of all that was pushed, or fewer.
pub pushes_last : (chunks : List (List ℕ)) → pushes_of (context_of []) chunks ≡ context_of (last 2 (flatten chunks))
unfolding last
pushes_last chunks = pushes_context [] chunks
