-- What `feed` is passed: its tables as the definitions have them, and that no last value but the front's is told.
use mathlib.Core.List.{List, [], ◌∷◌}
use contract.Lifetimes.{Lfts}
use denote.Signature.{Slot}
use denote.Triple.End.{Fins}
use denote.Triple.Entry.{Args}
use Rattle.tables.specs.Lists.{lists}
use Rattle.tables.specs.Tables.{Tables}
use Rattle.thin.specs.contracts.feed as feed

-- the parameters after the front
abbrev after_first : List (Slot 4) → List (Slot 4)
after_first [] = []
after_first (s ∷ ss) = ss

abbrev pub others : List (Slot 4)
others = after_first (feed.signature).params

module _ (κs : Lfts 4) where
  abbrev pub lent : Args feed.signature κs → Tables
  lent a = lists a.1.1.1.1.0.now

  -- no last value but the front's
  abbrev pub none : (a : Args feed.signature κs) → Fins κs others (feed.ended).kept.1 a.1
  none a = (tt, (tt, (tt, (tt, tt))))
