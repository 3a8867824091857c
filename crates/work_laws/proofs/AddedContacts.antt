-- The contacts of two sets of edges that share none, where a set with no edge has no tie.
use Rattle.std.proofs.Common.{◌≡◌, inl, inr, ℕ, ◌<◌, ◌≤◌, ◌==◌, Bool, false, cond, ◌&&◌, ◌||◌, sym, ap, ◌∙◌, eq-zero-or-pos, arith}
use Rattle.std.proofs.lemmas.Bool.{cases_Bool, eqb-true, eq-eqb, false≢true}
use Rattle.agglo_model.specs.Axes.{edge_count}
use Rattle.agglo_model.specs.Grid.{Grid}
use Rattle.agglo_model.specs.PairOrder.{Contact, added}
use Rattle.agglo_model.specs.Contacts.{total}
use Rattle.agglo_model.specs.RegionGraph.{no_contact}
use Rattle.agglo_model.specs.Joining.{or_none}
use Rattle.agglo_model.proofs.GraphContacts.{same_contact, added-none, none-added}
use Rattle.agglo_model.proofs.Totals.{total-both, total-none, total-tie, total-tie-le}

-- a contact as a list of graph edges has it: its tie is at most the number past all
abbrev pub listed : ℕ → Contact → Contact
listed past contact = added (or_none past contact) (no_contact past)

pub or_none-none : (past : ℕ) (d : Contact) → d.count ≡ 0 → or_none past d ≡ no_contact past
or_none-none past d none = ap (λ b. cond b (no_contact past) d) (eq-eqb d.count 0 none)

pub or_none-some : (past : ℕ) (d : Contact) → 0 < d.count → or_none past d ≡ d
or_none-some past d some = elim (cases_Bool (d.count == 0)) [
  | inr other ↦ ap (λ b. cond b (no_contact past) d) other
  | inl none ↦ absurd (omega (arith, eqb-true d.count 0 none))
]

pub listed-none : (past : ℕ) (d : Contact) → d.count ≡ 0 → listed past d ≡ no_contact past
listed-none past d none =
    ap (λ z. added z (no_contact past)) (or_none-none past d none) ∙ added-none past (no_contact past) (omega arith)

pub listed-some : (past : ℕ) (d : Contact) → 0 < d.count → listed past d ≡ added d (no_contact past)
listed-some past d some = ap (λ z. added z (no_contact past)) (or_none-some past d some)

-- no edge has no sum, and a tie past all
record IsTotal (past : ℕ) (d : Contact) : Type 0 where
  no_sum : d.count ≡ 0 → d.sum ≡ 0
  past_all : d.count ≡ 0 → d.tie ≡ past
  tie_low : d.tie ≤ past

total_is : (g : Grid) (p : ℕ → Bool) → IsTotal (edge_count g.axes) (total g p)
total_is g p = record {
  no_sum = λ none. (total-none g p none).0;
  past_all = λ none. (total-none g p none).1;
  tie_low = total-tie-le g p;
}

none_left : (n : ℕ) (d f : Contact) → IsTotal n d → IsTotal n f → d.count ≡ 0 → added d f ≡ f
none_left n d f is_d is_f none =
    let sum = is_d.no_sum none in
    let tie = is_d.past_all none in
    let low = is_f.tie_low in
    same_contact (added d f) f (omega arith) (omega arith) (omega arith)

none_right : (n : ℕ) (d f : Contact) → IsTotal n d → IsTotal n f → f.count ≡ 0 → added d f ≡ d
none_right n d f is_d is_f none =
    let sum = is_f.no_sum none in
    let tie = is_f.past_all none in
    let low = is_d.tie_low in
    same_contact (added d f) d (omega arith) (omega arith) (omega arith)

listed-low : (past : ℕ) (d : Contact) → (listed past d).tie ≤ past
listed-low past d = omega arith

listed-added : (past n : ℕ) (d f : Contact) → IsTotal n d → IsTotal n f
    → listed past (added d f) ≡ added (listed past d) (listed past f)
listed-added past n d f is_d is_f = elim (eq-zero-or-pos d.count) [
  | inl none ↦
      ap (listed past) (none_left n d f is_d is_f none)
      ∙ sym (none-added past (listed past f) (listed-low past f))
      ∙ ap (λ z. added z (listed past f)) (sym (listed-none past d none))
  | inr some ↦ elim (eq-zero-or-pos f.count) [
    | inl none ↦
        ap (listed past) (none_right n d f is_d is_f none)
        ∙ sym (added-none past (listed past d) (listed-low past d))
        ∙ ap (λ z. added (listed past d) z) (sym (listed-none past f none))
    | inr more ↦
        listed-some past (added d f) (omega arith)
        ∙ same_contact (added (added d f) (no_contact past)) (added (added d (no_contact past)) (added f (no_contact past)))
        (omega arith) (omega arith) (omega arith)
        ∙ (λ i. added (sym (listed-some past d some) i) (sym (listed-some past f more) i))
  ]
]

pub listed-both : (past : ℕ) (g : Grid) (p q : ℕ → Bool) → ((e : ℕ) → (p e && q e) ≡ false)
    → listed past (total g (λ e. p e || q e)) ≡ added (listed past (total g p)) (listed past (total g q))
listed-both past g p q apart =
    ap (listed past) (total-both g p q apart)
    ∙ listed-added past (edge_count g.axes) (total g p) (total g q) (total_is g p) (total_is g q)

-- a test that no edge passes
pub listed-fails : (past : ℕ) (g : Grid) (p : ℕ → Bool) → ((e : ℕ) → p e ≡ false) → listed past (total g p) ≡ no_contact past
listed-fails past g p fails = elim (eq-zero-or-pos (total g p).count) [
  | inl none ↦ listed-none past (total g p) none
  | inr some ↦ absurd (false≢true (sym (fails (total g p).tie) ∙ (total-tie g p some).1))
]
