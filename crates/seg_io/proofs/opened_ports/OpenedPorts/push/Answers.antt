use Rattle.std.proofs.Common.{◌≡◌, ◌≤◌, ℕ, List, [], ◌∷◌, ◌++◌, length, sym, ap, subst, ◌∙◌, arith, length-append, string_bytes, string_len, String, Global}
use Rattle.std.specs.String.{string_capacity}
use Rattle.std.proofs.lemmas.List.{nil_from_length}
use Rattle.std.proofs.lemmas.List.Elements.{All-take, All-contains, Contains-push}
use Rattle.std.specs.List.{All, Contains}
use Rattle.seg_io.specs.Desk.{Opened}
use Rattle.seg_io.specs.InMemory.{OpenedState, IsFresh, AreDistinct}
use Rattle.seg_io.proofs.Opening.{room_for_one, distinct_with_one}
use Rattle.seg_io.proofs.opened_ports.OpenedPorts.push.Goals as goal

pub unreachable-requires : goal.unreachable-requires
unreachable-requires c =
    let fresh : IsFresh c.args.port c.self.inside.list.items =
    subst (IsFresh c.args.port) (ap (λ (v : OpenedState). v.list) (sym c.self.view_is)) c.requires.fresh in
    omega (arith, room_for_one c.args.port c.self.inside.list.items fresh c.self.invariant.0, c.self.invariant.1, c.in_default.ensures.cases, c.self.inside.spare.ok.0)

pub invariant_of-self : goal.invariant_of-self
invariant_of-self c =
    let fresh : IsFresh c.args.port c.self.inside.list.items =
    subst (IsFresh c.args.port) (ap (λ (v : OpenedState). v.list) (sym c.self.view_is)) c.requires.fresh in
    let one : Opened = record { port = c.args.port; name = string_bytes c.push_str.new.self } in
    let more : c.push.new.self.items ≡ c.self.inside.list.items ++ one ∷ [] =
    rw c.if-is_err-2.ensures.negation at c.push.ensures.items in (
      subst AreDistinct (sym more) (distinct_with_one c.args.port (string_bytes c.push_str.new.self) c.self.inside.list.items fresh c.self.invariant.0),
      omega (arith, ap length more, length-append c.self.inside.list.items (one ∷ []), ap length c.in-Some.ensures.items, length-append c.pop.new.self.items (c.in-Some.text ∷ []), c.self.invariant.1),
      omega (arith, c.push.ensures.capacity, c.self.invariant.2),
      subst (All (λ (name : String Global). (string_len name ≡ 0) × (c.self.inside.room ≤ string_capacity name))) (sym c.in-Some.ensures.rest)
          (All-take (λ (name : String Global). (string_len name ≡ 0) × (c.self.inside.room ≤ string_capacity name)) _ c.self.inside.spare.items c.self.invariant.3),
    )

pub returns : goal.returns
returns c =
    let one : Opened = record { port = c.args.port; name = string_bytes c.push_str.new.self } in
    let more : c.push.new.self.items ≡ c.self.inside.list.items ++ one ∷ [] =
    rw c.if-is_err-2.ensures.negation at c.push.ensures.items in
    let spare = All-contains (λ (name : String Global). (string_len name ≡ 0) × (c.self.inside.room ≤ string_capacity name)) c.self.inside.spare.items c.in-Some.text c.self.invariant.3
    (subst (λ (l : List (String Global)). Contains l c.in-Some.text) (sym c.in-Some.ensures.items) (Contains-push c.pop.new.self.items c.in-Some.text)) in
    let empty : string_bytes c.in-Some.text ≡ [] = nil_from_length (string_bytes c.in-Some.text) (omega (arith, spare.0, c.in-Some.text.bytes.ok.0)) in
    let put : string_bytes c.push_str.new.self ≡ string_bytes c.in-Some.text ++ c.args.name.now =
    rw c.if-is_err.ensures.negation at c.push_str.ensures.bytes in
    let named : string_bytes c.push_str.new.self ≡ c.args.name.now = put ∙ ap (λ (l : List ℕ). l ++ c.args.name.now) empty in
    let whole : c.push.new.self.items ≡ c.args.self.now.list ++ record { port = c.args.port; name = c.args.name.now } ∷ [] =
    more ∙ (ap (λ (l : List Opened). l ++ one ∷ []) (ap (λ (v : OpenedState). v.list) c.self.view_is)
    ∙ ap (λ (n : List ℕ). c.args.self.now.list ++ record { port = c.args.port; name = n } ∷ []) named) in
    let room : c.self.inside.room ≡ c.args.self.now.room = ap (λ (v : OpenedState). v.room) c.self.view_is in cc
