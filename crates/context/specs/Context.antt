-- The saved context: the last two bytes of what was pushed, or fewer.
use Rattle.std.specs.Prelude.{List, [], ◌∷◌, ◌++◌, ℕ, take}
use Rattle.laws.specs.Lists.{last}
use Rattle.context.specs.declared.Context.{Context}

-- the bytes that a context holds, oldest first; what stands past its length is never looked at
abbrev pub bytes_of : Context → List ℕ
bytes_of c = take c.len (c.first ∷ c.second ∷ [])

-- the context that holds one or two bytes, or none
abbrev pub context_of : List ℕ → Context
context_of [] = record { first = 0; second = 0; len = 0 }
context_of (a ∷ []) = record { first = a; second = 0; len = 1 }
context_of (a ∷ b ∷ rest) = record { first = a; second = b; len = 2 }

-- a chunk goes into the context; an empty one leaves it as it is
unfoldable pub push_of : Context → List ℕ → Context
push_of c [] = c
push_of c (b ∷ bs) = context_of (last 2 (bytes_of c ++ (b ∷ bs)))

-- chunks, one after the other
unfoldable pub pushes_of : Context → List (List ℕ) → Context
pushes_of c [] = c
pushes_of c (x ∷ xs) = pushes_of (push_of c x) xs
