-- The list of opened ports has no port twice, so it has room for one that is not in it.
use Rattle.std.proofs.Common.{◌≡◌, ℕ, ◌+◌, ◌<◌, List, [], ◌∷◌, ◌++◌, length, inl, inr, refl, arith, length-append}
use Rattle.seg_io.specs.declared.port.Port.{Port}
use Rattle.seg_io.specs.declared.port.Port.TheVariants.{Labels, Tree, Volume, Note, Trouble}
use Rattle.seg_io.specs.Desk.{Opened, IsListed}
use Rattle.seg_io.specs.InMemory.{IsFresh, same_port, times_listed, AreDistinct}

other_port : (p q : Port) → ¬ (q ≡ p) → same_port p q ≡ 0
other_port Labels Labels ne = absurd (ne refl)
other_port Tree Tree ne = absurd (ne refl)
other_port Volume Volume ne = absurd (ne refl)
other_port _ _ ne = refl

not_listed : (port : Port) (list : List Opened) → ¬ (IsListed port list) → times_listed port list ≡ 0
not_listed port [] absent = refl
not_listed port (opened ∷ others) absent =
    omega (arith, other_port port opened.port (λ e. absent (inl e)), not_listed port others (λ h. absent (inr h)))

times-push : (port : Port) (list : List Opened) (opened : Opened)
    → times_listed port (list ++ opened ∷ []) ≡ times_listed port list + same_port port opened.port
times-push port [] opened = omega arith
times-push port (x ∷ xs) opened = omega (arith, times-push port xs opened)

pub room_for_one : (port : Port) (list : List Opened) → IsFresh port list → AreDistinct list → length list < 3
room_for_one Labels list fresh d = omega (arith, d.all, d.tree, d.volume, not_listed Labels list fresh)
room_for_one Tree list fresh d = omega (arith, d.all, d.labels, d.volume, not_listed Tree list fresh)
room_for_one Volume list fresh d = omega (arith, d.all, d.labels, d.tree, not_listed Volume list fresh)
room_for_one Note list fresh d = absurd fresh
room_for_one Trouble list fresh d = absurd fresh

pub distinct_with_one : (port : Port) (name : List ℕ) (list : List Opened) → IsFresh port list → AreDistinct list
    → AreDistinct (list ++ record { port = port; name = name } ∷ [])
distinct_with_one Labels name list fresh d =
    let one : Opened = record { port = Labels; name = name } in record {
      all = omega (arith, d.all, length-append list (one ∷ []), times-push Labels list one, times-push Tree list one, times-push Volume list one);
      labels = omega (arith, not_listed Labels list fresh, times-push Labels list one);
      tree = omega (arith, d.tree, times-push Tree list one);
      volume = omega (arith, d.volume, times-push Volume list one);
    }
distinct_with_one Tree name list fresh d =
    let one : Opened = record { port = Tree; name = name } in record {
      all = omega (arith, d.all, length-append list (one ∷ []), times-push Labels list one, times-push Tree list one, times-push Volume list one);
      labels = omega (arith, d.labels, times-push Labels list one);
      tree = omega (arith, not_listed Tree list fresh, times-push Tree list one);
      volume = omega (arith, d.volume, times-push Volume list one);
    }
distinct_with_one Volume name list fresh d =
    let one : Opened = record { port = Volume; name = name } in record {
      all = omega (arith, d.all, length-append list (one ∷ []), times-push Labels list one, times-push Tree list one, times-push Volume list one);
      labels = omega (arith, d.labels, times-push Labels list one);
      tree = omega (arith, d.tree, times-push Tree list one);
      volume = omega (arith, not_listed Volume list fresh, times-push Volume list one);
    }
distinct_with_one Note name list fresh d = absurd fresh
distinct_with_one Trouble name list fresh d = absurd fresh
