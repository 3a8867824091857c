-- A merge of two names in contact keeps all names connected: an edge of their contact is the bridge.
use Rattle.std.proofs.Common.{◌≡◌, ◌≢◌, ◌⊎◌, inl, inr, ℕ, Bool, true, ◌&&◌, IsTrue, List, refl, sym, ◌∙◌, subst, arith}
use Rattle.std.proofs.lemmas.Bool.Decides.{nat_tests}
use Rattle.agglo_model.specs.Axes.{Axes, is_edge, lower_end, higher_end}
use Rattle.agglo_model.specs.Grid.{Grid}
use Rattle.agglo_model.specs.Basins.{label_of}
use Rattle.agglo_model.specs.Contacts.{differ, are, lower_label, higher_label, between, InContact, renamed}
use Rattle.agglo_model.specs.Connected.{AreNeighbours, AreConnected}
use Rattle.agglo_model.specs.NodeLaws.{MergesKeepConnected}
use Rattle.agglo_model.proofs.ContactEdges.{InContact-names, InContact-tie}
use Rattle.agglo_model.proofs.Renames.{new_name, label-renamed, survivor_stays, absorbed_becomes}
use Rattle.agglo_model.proofs.FirstPairs.{names_are}
use Rattle.agglo_model.proofs.Paths.{AreJoined, joined_by, joined_then, joined_back, joined_under}

-- two neighbours with the names a and b
pub record IsBridge (a : Axes) (labels : List ℕ) (x y : ℕ) : Type 0 where
  pub from : ℕ
  pub to : ℕ
  pub near : AreNeighbours a from to
  pub from_is : label_of labels from ≡ x
  pub to_is : label_of labels to ≡ y

edge_part : (i d r : Bool) → ((i && d) && r) ≡ true → IsTrue i
edge_part i d r pass = grind arith

-- names in contact have a bridge
pub bridge : (g : Grid) (labels : List ℕ) (a b : ℕ) → InContact g labels a b → IsBridge g.axes labels a b
bridge g labels a b touching = by_names (names_are (is_edge g.axes e) (lower_label g labels e) (higher_label g labels e) a b joined)
  where
    e : ℕ
    e = (between g labels a b).tie

    joined : ((is_edge g.axes e && differ (lower_label g labels e) (higher_label g labels e))
        && are (lower_label g labels e) (higher_label g labels e) a b) ≡ true
    joined = InContact-tie g labels a b touching

    edge : IsTrue (is_edge g.axes e)
    edge = edge_part (is_edge g.axes e) _ _ joined

    by_names : ((lower_label g labels e ≡ a) × (higher_label g labels e ≡ b))
        ⊎ ((lower_label g labels e ≡ b) × (higher_label g labels e ≡ a)) → IsBridge g.axes labels a b
    by_names (inl (l, h)) = record {
      from = lower_end g.axes e;
      to = higher_end e;
      near = (e, edge, inl (refl, refl));
      from_is = l;
      to_is = h;
    }
    by_names (inr (l, h)) = record {
      from = higher_end e;
      to = lower_end g.axes e;
      near = (e, edge, inr (refl, refl));
      from_is = h;
      to_is = l;
    }

name_becomes : (a b x y : ℕ) → x ≡ y → new_name a b x ≡ new_name a b y
name_becomes a b x y same = λ i. new_name a b (same i)

-- names that become one were one, or are the two that merge
become_one : (a b x y : ℕ) → new_name a b y ≡ new_name a b x
    → (y ≡ x) ⊎ ((x ≡ a) × (y ≡ b)) ⊎ ((x ≡ b) × (y ≡ a))
become_one a b x y same = grind (arith, nat_tests)

module _ (g : Grid) (labels : List ℕ) (a b : ℕ) (touching : InContact g labels a b) (connected : AreConnected g.axes labels) where
  a_some : a ≢ 0
  a_some = omega (arith, InContact-names g labels a b touching)

  b_some : b ≢ 0
  b_some = omega (arith, InContact-names g labels a b touching)

  becomes : (x u : ℕ) → label_of labels u ≡ x → label_of (renamed labels a b) u ≡ new_name a b x
  becomes x u is = label-renamed labels a b u b_some ∙ name_becomes a b (label_of labels u) x is

  -- a path of old labels
  kept : (x v w : ℕ) → x ≢ 0 → label_of labels v ≡ x → label_of labels w ≡ x
      → AreJoined g.axes (renamed labels a b) (new_name a b x) v w
  kept x v w some at_v at_w =
      joined_under g.axes labels (renamed labels a b) x (new_name a b x) v w (becomes x)
      (subst (λ z. AreJoined g.axes labels z v w) at_v
      (connected v w (subst (λ z. z ≢ 0) (sym at_v) some) (at_w ∙ sym at_v)))

  -- a path over the bridge
  across : (v w : ℕ) → label_of labels v ≡ a → label_of labels w ≡ b → AreJoined g.axes (renamed labels a b) a v w
  across v w at_v at_w =
      let over = bridge g labels a b touching in
      let before : AreJoined g.axes (renamed labels a b) a v over.from =
      subst (λ z. AreJoined g.axes (renamed labels a b) z v over.from) (survivor_stays a b)
      (kept a v over.from a_some at_v over.from_is) in
      let after : AreJoined g.axes (renamed labels a b) a over.to w =
      subst (λ z. AreJoined g.axes (renamed labels a b) z over.to w) (absorbed_becomes a b)
      (kept b over.to w b_some over.to_is at_w) in
      joined_then g.axes (renamed labels a b) a v over.from w before
      (joined_by g.axes (renamed labels a b) a over.from over.to w
      (becomes a over.from over.from_is ∙ survivor_stays a b) over.near after)

  joined_after : (v w : ℕ) → label_of labels v ≢ 0
      → (label_of labels w ≡ label_of labels v) ⊎ ((label_of labels v ≡ a) × (label_of labels w ≡ b)) ⊎ ((label_of labels v ≡ b) × (label_of labels w ≡ a))
      → AreJoined g.axes (renamed labels a b) (new_name a b (label_of labels v)) v w
  joined_after v w some (inl same) = kept (label_of labels v) v w some refl same
  joined_after v w some (inr (inl (at_v, at_w))) =
      subst (λ z. AreJoined g.axes (renamed labels a b) z v w) (sym (name_becomes a b (label_of labels v) a at_v ∙ survivor_stays a b))
      (across v w at_v at_w)
  joined_after v w some (inr (inr (at_v, at_w))) =
      subst (λ z. AreJoined g.axes (renamed labels a b) z v w) (sym (name_becomes a b (label_of labels v) b at_v ∙ absorbed_becomes a b))
      (joined_back g.axes (renamed labels a b) a w v (across w v at_w at_v))

zero_only : (a b x : ℕ) → a ≢ 0 → new_name a b x ≢ 0 → b ≢ 0 → x ≢ 0
zero_only a b x pa some pb = grind (arith, nat_tests)

pub merges_keep_connected : MergesKeepConnected
merges_keep_connected g labels a b touching connected v w some same =
    let pb = b_some g labels a b touching connected in
    let pa = a_some g labels a b touching connected in
    let at_v = label-renamed labels a b v pb in
    let at_w = label-renamed labels a b w pb in
    let was : label_of labels v ≢ 0 =
    zero_only a b (label_of labels v) pa (subst (λ z. z ≢ 0) at_v some) pb in
    subst (λ z. AreJoined g.axes (renamed labels a b) z v w) (sym at_v)
    (joined_after g labels a b touching connected v w was
    (become_one a b (label_of labels v) (label_of labels w) (sym at_w ∙ same ∙ at_v)))
