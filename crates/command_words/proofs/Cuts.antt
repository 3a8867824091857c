-- A text is cut at its first separator in one way, so fractions and sizes have their parts in one way.
use Rattle.std.proofs.Common.{◌≡◌, ◌≢◌, ℕ, suc, List, [], ◌∷◌, ◌++◌, get_or, All, Some, None, MatchOption, Result, Ok, Err, MatchResult, refl, sym, ap, ◌∙◌, subst, append_assoc, arith}
use Rattle.std.specs.Char.{IsAsciiDigit}
use Rattle.std.specs.Result.{result_ok}
use Rattle.agglo_model.specs.Axes.{Axes, AxesFlaw, IsWithinLimits, axes_flaw}
use Rattle.agglo_model.proofs.AxesLimits.{no_flaw, within_limits}
use Rattle.agglo_model.specs.PairOrder.{Threshold}
use Rattle.command_words.specs.Words.{IsNumber, IsFraction, AreSizes, SpellsAxes, digits_number}
use Rattle.command_words.specs.Parts.{IsWithout}
use Rattle.seg_base.specs.declared.dims.DimFault.{DimFault}
use Rattle.seg_base.specs.Flaw.{flaw_of}

-- a text of digits is without any other byte
pub digits_without : (c : ℕ) (word : List ℕ) → ((d : ℕ) → IsAsciiDigit d → d ≢ c) → All IsAsciiDigit word → IsWithout c word
digits_without c word other digits i below = other (get_or word i 0) (digits i 0 below)

pub rest_without : (c x : ℕ) (word : List ℕ) → IsWithout c (x ∷ word) → IsWithout c word
rest_without c x word without i below = without (suc i) (omega arith)

-- the head and the tail of equal lists
pub same_first : {X : Type 0} (x y : X) (xs ys : List X) → x ∷ xs ≡ y ∷ ys → x ≡ y
same_first x y xs ys e = cc

pub same_rest : {X : Type 0} (x y : X) (xs ys : List X) → x ∷ xs ≡ y ∷ ys → xs ≡ ys
same_rest x y xs ys e = cc

pub cut_once : (c : ℕ) (a b p q : List ℕ) → a ++ c ∷ b ≡ p ++ c ∷ q → IsWithout c a → IsWithout c p → (a ≡ p) × (b ≡ q)
cut_once c [] b [] q e wa wp = (refl, same_rest c c b q e)
cut_once c [] b (y ∷ p) q e wa wp = absurd (wp 0 (omega arith) (sym (same_first c y b (p ++ c ∷ q) e)))
cut_once c (x ∷ a) b [] q e wa wp = absurd (wa 0 (omega arith) (same_first x c (a ++ c ∷ b) q e))
cut_once c (x ∷ a) b (y ∷ p) q e wa wp =
    let h = same_first x y (a ++ c ∷ b) (p ++ c ∷ q) e in
    let t = cut_once c a b p q (same_rest x y (a ++ c ∷ b) (p ++ c ∷ q) e)
    (rest_without c x a wa) (rest_without c y p wp) in
    ((λ i. h i ∷ t.0 i), t.1)

-- a text without the byte has no two parts
pub no_parts : (c : ℕ) (word a b : List ℕ) → IsWithout c word → word ≡ a ++ c ∷ b → ⊥
no_parts c word a b without e = none a (subst (IsWithout c) e without)
  where
    none : (a : List ℕ) → IsWithout c (a ++ c ∷ b) → ⊥
    none [] w = w 0 (omega arith) refl
    none (x ∷ a) w = none a (rest_without c x (a ++ c ∷ b) w)

not_slash : (d : ℕ) → IsAsciiDigit d → d ≢ 47
not_slash d digit e = omega arith

not_comma : (d : ℕ) → IsAsciiDigit d → d ≢ 44
not_comma d digit e = omega arith

-- the separator and what follows it, as `codes` writes it
middle : (c : ℕ) (a b : List ℕ) → (a ++ c ∷ []) ++ b ≡ a ++ c ∷ b
middle c a b = append_assoc a (c ∷ []) b

-- ---- fractions

pub fraction_cut : (word : List ℕ) (t : Threshold) → (f : IsFraction word t) → word ≡ f.above ++ 47 ∷ f.below
fraction_cut word t f = f.parts ∙ middle 47 f.above f.below

pub fraction_without : (word : List ℕ) (t : Threshold) → (f : IsFraction word t) → IsWithout 47 f.above
fraction_without word t f = digits_without 47 f.above not_slash f.numerator.digits

-- the parts of a fraction are those at its first slash
pub fraction_parts : (word above below : List ℕ) (t : Threshold) → word ≡ above ++ 47 ∷ below → IsWithout 47 above
    → (f : IsFraction word t) → (f.above ≡ above) × (f.below ≡ below)
fraction_parts word above below t parts without f = cut_once 47 f.above f.below above below
    (sym (fraction_cut word t f) ∙ parts) (fraction_without word t f) without

pub fraction_numerator : (word above below : List ℕ) (t : Threshold) → word ≡ above ++ 47 ∷ below → IsWithout 47 above
    → IsFraction word t → IsNumber 0 4294967295 above
fraction_numerator word above below t parts without f =
    subst (IsNumber 0 4294967295) (fraction_parts word above below t parts without f).0 f.numerator

pub fraction_denominator : (word above below : List ℕ) (t : Threshold) → word ≡ above ++ 47 ∷ below → IsWithout 47 above
    → IsFraction word t → IsNumber 1 4294967295 below
fraction_denominator word above below t parts without f =
    subst (IsNumber 1 4294967295) (fraction_parts word above below t parts without f).1 f.denominator

-- ---- sizes

pub sizes_first : (word : List ℕ) (sizes : List ℕ) → (s : AreSizes word sizes) → word ≡ s.x ++ 44 ∷ (s.y ++ 44 ∷ s.z)
sizes_first word sizes s = s.parts
    ∙ append_assoc ((s.x ++ 44 ∷ []) ++ s.y) (44 ∷ []) s.z
    ∙ append_assoc (s.x ++ 44 ∷ []) s.y (44 ∷ s.z)
    ∙ middle 44 s.x (s.y ++ 44 ∷ s.z)

-- the parts of sizes at the first comma, and those of the rest
pub sizes_parts : (word x others : List ℕ) (sizes : List ℕ) → word ≡ x ++ 44 ∷ others → IsWithout 44 x
    → (s : AreSizes word sizes) → (s.x ≡ x) × (s.y ++ 44 ∷ s.z ≡ others)
sizes_parts word x others sizes parts without s = cut_once 44 s.x (s.y ++ 44 ∷ s.z) x others
    (sym (sizes_first word sizes s) ∙ parts) (digits_without 44 s.x not_comma s.x_number.digits) without

pub record AreParts (x y z : List ℕ) (one other third : List ℕ) : Type 0 where
  pub at_x : one ≡ x
  pub at_y : other ≡ y
  pub at_z : third ≡ z

pub sizes_all : (word x others y z : List ℕ) (sizes : List ℕ) → word ≡ x ++ 44 ∷ others → IsWithout 44 x
    → others ≡ y ++ 44 ∷ z → IsWithout 44 y → (s : AreSizes word sizes) → AreParts x y z s.x s.y s.z
sizes_all word x others y z sizes parts without rest without_y s =
    let first = sizes_parts word x others sizes parts without s in
    let later = cut_once 44 s.y s.z y z (first.1 ∙ rest) (digits_without 44 s.y not_comma s.y_number.digits) without_y in
    record { at_x = first.0; at_y = later.0; at_z = later.1 }

pub sizes_word : (word x others y z : List ℕ) → word ≡ x ++ 44 ∷ others → others ≡ y ++ 44 ∷ z
    → word ≡ (((x ++ 44 ∷ []) ++ y) ++ 44 ∷ []) ++ z
sizes_word word x others y z parts rest = parts ∙ ap (λ o. x ++ 44 ∷ o) rest
    ∙ sym (append_assoc ((x ++ 44 ∷ []) ++ y) (44 ∷ []) z
    ∙ append_assoc (x ++ 44 ∷ []) y (44 ∷ z)
    ∙ middle 44 x (y ++ 44 ∷ z))

-- ---- each says one thing

pub fraction_once : (word : List ℕ) (t u : Threshold) → IsFraction word t → IsFraction word u → t ≡ u
fraction_once word t u f g =
    let parts = fraction_parts word f.above f.below u (fraction_cut word t f) (fraction_without word t f) g in
    let p : t.p ≡ u.p = sym f.p_is ∙ ap digits_number (sym parts.0) ∙ g.p_is in
    let q : t.q ≡ u.q = sym f.q_is ∙ ap digits_number (sym parts.1) ∙ g.q_is in
    λ i. record { p = p i; q = q i }

pub sizes_once : (word sizes others : List ℕ) → AreSizes word sizes → AreSizes word others → sizes ≡ others
sizes_once word sizes others s t =
    let same = sizes_all word s.x (s.y ++ 44 ∷ s.z) s.y s.z others (sizes_first word sizes s)
    (digits_without 44 s.x not_comma s.x_number.digits) refl (digits_without 44 s.y not_comma s.y_number.digits) t in
    s.sizes_are
    ∙ (λ i. digits_number (sym same.at_x i) ∷ digits_number (sym same.at_y i) ∷ digits_number (sym same.at_z i) ∷ [])
    ∙ sym t.sizes_are

pub no_axes : (word sizes : List ℕ) (flaw : AxesFlaw) → AreSizes word sizes
    → axes_flaw (record { nx = get_or sizes 0 0; ny = get_or sizes 1 0; nz = get_or sizes 2 0 }) ≡ Some flaw
    → (axes : Axes) → ¬ (SpellsAxes word axes)
no_axes word sizes flaw are bad axes s =
    let same = sizes_once word (axes.nx ∷ axes.ny ∷ axes.nz ∷ []) sizes s.sizes are in
    let good : None ≡ Some flaw = sym (no_flaw axes s.limits)
    ∙ ap (λ l. axes_flaw (record { nx = get_or l 0 0; ny = get_or l 1 0; nz = get_or l 2 0 })) same ∙ bad in
    cc good

pub axes_once : (word : List ℕ) (a b : Axes) → SpellsAxes word a → SpellsAxes word b → a ≡ b
axes_once word a b s t =
    let same = sizes_once word (a.nx ∷ a.ny ∷ a.nz ∷ []) (b.nx ∷ b.ny ∷ b.nz ∷ []) s.sizes t.sizes in
    let x : a.nx ≡ b.nx = cc same in
    let y : a.ny ≡ b.ny = cc same in
    let z : a.nz ≡ b.nz = cc same in
    λ i. record { nx = x i; ny = y i; nz = z i }

-- ---- axes that are made of sizes

abbrev axes_of : List ℕ → Axes
axes_of sizes = record { nx = get_or sizes 0 0; ny = get_or sizes 1 0; nz = get_or sizes 2 0 }

three_sizes : (word sizes : List ℕ) → AreSizes word sizes → sizes ≡ get_or sizes 0 0 ∷ get_or sizes 1 0 ∷ get_or sizes 2 0 ∷ []
three_sizes word sizes s = s.sizes_are ∙ sym (ap (λ l. get_or l 0 0 ∷ get_or l 1 0 ∷ get_or l 2 0 ∷ []) s.sizes_are)

pub axes_read : (word sizes : List ℕ) (r : Result Axes DimFault) → AreSizes word sizes
    → MatchResult r (λ dims. (axes_flaw (axes_of sizes) ≡ None) × (dims ≡ axes_of sizes)) (λ fault. axes_flaw (axes_of sizes) ≡ Some (flaw_of fault))
    → MatchOption (result_ok r) ((axes : Axes) → ¬ (SpellsAxes word axes)) (λ axes. SpellsAxes word axes)
axes_read word sizes (Ok dims) s (sound, is) = record {
  sizes = subst (AreSizes word) (three_sizes word sizes s ∙ ap (λ (a : Axes). a.nx ∷ a.ny ∷ a.nz ∷ []) (sym is)) s;
  limits = subst IsWithinLimits (sym is) (within_limits (axes_of sizes) sound);
}
axes_read word sizes (Err fault) s bad = no_axes word sizes (flaw_of fault) s bad
