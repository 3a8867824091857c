-- The values that children hand on, each in a place of its own.
use Rattle.std.specs.Prelude.{List, [], ◌∷◌, Option, Some, None, IsSome}

module _ {R : Type 0} where
  -- the value in a place, if it is filled, and those after it
  abbrev pub and_then : Option R → List R → List R
  and_then None values = values
  and_then (Some value) values = value ∷ values

  -- the values in all places, in order
  abbrev pub given : Option R → Option R → Option R → Option R → Option R → Option R → Option R → Option R → List R
  given a b c d e f g h =
      and_then a (and_then b (and_then c (and_then d (and_then e (and_then f (and_then g (and_then h [])))))))

  -- no place is filled before the one in front of it
  pub record AreFilledInOrder (a b c d e f g h : Option R) : Type 0 where
    pub second : IsSome b → IsSome a
    pub third : IsSome c → IsSome b
    pub fourth : IsSome d → IsSome c
    pub fifth : IsSome e → IsSome d
    pub sixth : IsSome f → IsSome e
    pub seventh : IsSome g → IsSome f
    pub eighth : IsSome h → IsSome g
