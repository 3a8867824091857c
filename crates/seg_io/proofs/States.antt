-- Laws of a desk's state that callers of this crate cite.
use Rattle.std.proofs.Common.{◌≡◌, ◌≢◌, ℕ, ◌+◌, ◌≤◌, List, [], ◌++◌, length, take, drop, Option, Some, None, IfSome, refl, sym, ap, subst, ◌∙◌, arith, append_assoc, length-append}
use Rattle.std.specs.Option.{option_map}
use Rattle.std.proofs.Math.Seq.{take-append-add}
use Rattle.std.proofs.lemmas.List.{append-nil, drop-drop, take-append-le}
use Rattle.agglo_model.specs.Count.{Rose}
use Rattle.seg_io.specs.declared.port.Port.{Port}
use Rattle.seg_io.specs.declared.port.Port.TheVariants.{Labels, Tree, Volume, Note, Trouble}
use Rattle.seg_io.specs.Desk.{DeskState, IsListed, IsOpen, taken, appended, written_at, faults_at, with_faults, FailsAfterWriting}

-- a fact of each value is one of the value that an option may have
pub for_some : {X : Type 0} (o : Option X) (P : X → Type 0) → ((x : X) → P x) → IfSome o P
for_some None P f = tt
for_some (Some x) P f = f x

drop_none : (o : Option (List ℕ)) → option_map (drop 0) o ≡ o
drop_none None = refl
drop_none (Some bytes) = refl

drop_twice : (n k : ℕ) (o : Option (List ℕ)) → option_map (drop k) (option_map (drop n) o) ≡ option_map (drop (n + k)) o
drop_twice n k None = refl
drop_twice n k (Some bytes) = ap Some (drop-drop k n bytes)

-- nothing taken off
pub taken-none : (s : DeskState) → taken 0 s ≡ s
taken-none s = ap (λ (i : Option (List ℕ)). record s { input = i }) (drop_none s.input)

-- two pieces taken off are one
pub taken-taken : (n k : ℕ) (s : DeskState) → taken k (taken n s) ≡ taken (n + k) s
taken-taken n k s = ap (λ (i : Option (List ℕ)). record s { input = i }) (drop_twice n k s.input)

-- nothing written
added_none : (o : Option (List ℕ)) → option_map (λ (w : List ℕ). w ++ []) o ≡ o
added_none None = refl
added_none (Some w) = ap Some (append-nil w)

added_twice : (a b : List ℕ) (o : Option (List ℕ))
    → option_map (λ (w : List ℕ). w ++ b) (option_map (λ (w : List ℕ). w ++ a) o) ≡ option_map (λ (w : List ℕ). w ++ (a ++ b)) o
added_twice a b None = refl
added_twice a b (Some w) = ap Some (append_assoc w a b)

pub appended-none : (port : Port) (s : DeskState) → appended port [] s ≡ s
appended-none Labels s = ap (λ (o : Option (List ℕ)). record s { labels = o }) (added_none s.labels)
appended-none Tree s = ap (λ (o : Option (List ℕ)). record s { tree = o }) (added_none s.tree)
appended-none Volume s = ap (λ (o : Option (List ℕ)). record s { volume = o }) (added_none s.volume)
appended-none Note s = ap (λ (o : Option (List ℕ)). record s { note = o }) (added_none s.note)
appended-none Trouble s = ap (λ (o : Option (List ℕ)). record s { trouble = o }) (added_none s.trouble)

-- two pieces written are one
pub appended-appended : (port : Port) (a b : List ℕ) (s : DeskState)
    → appended port b (appended port a s) ≡ appended port (a ++ b) s
appended-appended Labels a b s = ap (λ (o : Option (List ℕ)). record s { labels = o }) (added_twice a b s.labels)
appended-appended Tree a b s = ap (λ (o : Option (List ℕ)). record s { tree = o }) (added_twice a b s.tree)
appended-appended Volume a b s = ap (λ (o : Option (List ℕ)). record s { volume = o }) (added_twice a b s.volume)
appended-appended Note a b s = ap (λ (o : Option (List ℕ)). record s { note = o }) (added_twice a b s.note)
appended-appended Trouble a b s = ap (λ (o : Option (List ℕ)). record s { trouble = o }) (added_twice a b s.trouble)

-- what stands on a port after a write on it, and on another port
pub written_at-appended : (port : Port) (a : List ℕ) (s : DeskState)
    → written_at port (appended port a s) ≡ option_map (λ (w : List ℕ). w ++ a) (written_at port s)
written_at-appended Labels a s = refl
written_at-appended Tree a s = refl
written_at-appended Volume a s = refl
written_at-appended Note a s = refl
written_at-appended Trouble a s = refl

pub written_at-appended_other : (other port : Port) (a : List ℕ) (s : DeskState) → other ≢ port
    → written_at other (appended port a s) ≡ written_at other s
written_at-appended_other Labels Labels a s ne = absurd (ne refl)
written_at-appended_other Labels Tree a s ne = refl
written_at-appended_other Labels Volume a s ne = refl
written_at-appended_other Labels Note a s ne = refl
written_at-appended_other Labels Trouble a s ne = refl
written_at-appended_other Tree Labels a s ne = refl
written_at-appended_other Tree Tree a s ne = absurd (ne refl)
written_at-appended_other Tree Volume a s ne = refl
written_at-appended_other Tree Note a s ne = refl
written_at-appended_other Tree Trouble a s ne = refl
written_at-appended_other Volume Labels a s ne = refl
written_at-appended_other Volume Tree a s ne = refl
written_at-appended_other Volume Volume a s ne = absurd (ne refl)
written_at-appended_other Volume Note a s ne = refl
written_at-appended_other Volume Trouble a s ne = refl
written_at-appended_other Note Labels a s ne = refl
written_at-appended_other Note Tree a s ne = refl
written_at-appended_other Note Volume a s ne = refl
written_at-appended_other Note Note a s ne = absurd (ne refl)
written_at-appended_other Note Trouble a s ne = refl
written_at-appended_other Trouble Labels a s ne = refl
written_at-appended_other Trouble Tree a s ne = refl
written_at-appended_other Trouble Volume a s ne = refl
written_at-appended_other Trouble Note a s ne = refl
written_at-appended_other Trouble Trouble a s ne = absurd (ne refl)

-- a write opens no port, and a fault neither
pub opened-appended : (port : Port) (a : List ℕ) (s : DeskState) → (appended port a s).opened ≡ s.opened
opened-appended Labels a s = refl
opened-appended Tree a s = refl
opened-appended Volume a s = refl
opened-appended Note a s = refl
opened-appended Trouble a s = refl

pub opened-with_faults : (port : Port) (n : ℕ) (s : DeskState) → (with_faults port n s).opened ≡ s.opened
opened-with_faults Labels n s = refl
opened-with_faults Tree n s = refl
opened-with_faults Volume n s = refl
opened-with_faults Note n s = refl
opened-with_faults Trouble n s = refl

-- a port is open by the list of those that were opened
pub IsOpen-same : (port : Port) (s t : DeskState) → t.opened ≡ s.opened → IsOpen port s → IsOpen port t
IsOpen-same Labels s t e h = subst (IsListed Labels) (sym e) h
IsOpen-same Tree s t e h = subst (IsListed Tree) (sym e) h
IsOpen-same Volume s t e h = subst (IsListed Volume) (sym e) h
IsOpen-same Note s t e h = tt
IsOpen-same Trouble s t e h = tt

pub IsOpen-appended : (other port : Port) (a : List ℕ) (s : DeskState) → IsOpen other s → IsOpen other (appended port a s)
IsOpen-appended other port a s h = IsOpen-same other s (appended port a s) (opened-appended port a s) h

pub IsOpen-with_faults : (other port : Port) (n : ℕ) (s : DeskState) → IsOpen other s → IsOpen other (with_faults port n s)
IsOpen-with_faults other port n s h = IsOpen-same other s (with_faults port n s) (opened-with_faults port n s) h

-- a write counts no fault, and a fault writes nothing
pub faults_at-appended : (other port : Port) (a : List ℕ) (s : DeskState) → faults_at other (appended port a s) ≡ faults_at other s
faults_at-appended Labels Labels a s = refl
faults_at-appended Labels Tree a s = refl
faults_at-appended Labels Volume a s = refl
faults_at-appended Labels Note a s = refl
faults_at-appended Labels Trouble a s = refl
faults_at-appended Tree Labels a s = refl
faults_at-appended Tree Tree a s = refl
faults_at-appended Tree Volume a s = refl
faults_at-appended Tree Note a s = refl
faults_at-appended Tree Trouble a s = refl
faults_at-appended Volume Labels a s = refl
faults_at-appended Volume Tree a s = refl
faults_at-appended Volume Volume a s = refl
faults_at-appended Volume Note a s = refl
faults_at-appended Volume Trouble a s = refl
faults_at-appended Note Labels a s = refl
faults_at-appended Note Tree a s = refl
faults_at-appended Note Volume a s = refl
faults_at-appended Note Note a s = refl
faults_at-appended Note Trouble a s = refl
faults_at-appended Trouble Labels a s = refl
faults_at-appended Trouble Tree a s = refl
faults_at-appended Trouble Volume a s = refl
faults_at-appended Trouble Note a s = refl
faults_at-appended Trouble Trouble a s = refl

pub faults_at-with_faults : (port : Port) (n : ℕ) (s : DeskState) → faults_at port (with_faults port n s) ≡ n
faults_at-with_faults Labels n s = refl
faults_at-with_faults Tree n s = refl
faults_at-with_faults Volume n s = refl
faults_at-with_faults Note n s = refl
faults_at-with_faults Trouble n s = refl

pub written_at-with_faults : (other port : Port) (n : ℕ) (s : DeskState) → written_at other (with_faults port n s) ≡ written_at other s
written_at-with_faults Labels Labels n s = refl
written_at-with_faults Labels Tree n s = refl
written_at-with_faults Labels Volume n s = refl
written_at-with_faults Labels Note n s = refl
written_at-with_faults Labels Trouble n s = refl
written_at-with_faults Tree Labels n s = refl
written_at-with_faults Tree Tree n s = refl
written_at-with_faults Tree Volume n s = refl
written_at-with_faults Tree Note n s = refl
written_at-with_faults Tree Trouble n s = refl
written_at-with_faults Volume Labels n s = refl
written_at-with_faults Volume Tree n s = refl
written_at-with_faults Volume Volume n s = refl
written_at-with_faults Volume Note n s = refl
written_at-with_faults Volume Trouble n s = refl
written_at-with_faults Note Labels n s = refl
written_at-with_faults Note Tree n s = refl
written_at-with_faults Note Volume n s = refl
written_at-with_faults Note Note n s = refl
written_at-with_faults Note Trouble n s = refl
written_at-with_faults Trouble Labels n s = refl
written_at-with_faults Trouble Tree n s = refl
written_at-with_faults Trouble Volume n s = refl
written_at-with_faults Trouble Note n s = refl
written_at-with_faults Trouble Trouble n s = refl

-- a count that rose has risen from any earlier value of it too, and goes on having risen
pub Rose-later : (before now later : ℕ) → Rose before now → now ≤ later → Rose before later
Rose-later before now later r h = omega (arith, r)

pub Rose-earlier : (earlier before now : ℕ) → earlier ≤ before → Rose before now → Rose earlier now
Rose-earlier earlier before now h r = omega (arith, r)

-- a write of the rest fails: so does the write of all, after what was written before
pub FailsAfterWriting-later : (port : Port) (a b : List ℕ) (old now new : DeskState) → now ≡ appended port a old
    → FailsAfterWriting port b now new → FailsAfterWriting port (a ++ b) old new
FailsAfterWriting-later port a b old now new e f =
    let joined : take (length a + f.written) (a ++ b) ≡ a ++ take f.written b = take-append-add a b f.written in
    let same : faults_at port now ≡ faults_at port old = ap (faults_at port) e ∙ faults_at-appended port port a old in
    let here : appended port (take f.written b) now ≡ appended port (take (length a + f.written) (a ++ b)) old =
    ap (appended port (take f.written b)) e ∙ (appended-appended port a (take f.written b) old ∙ ap (λ (c : List ℕ). appended port c old) (sym joined)) in
    record {
      written = length a + f.written;
      most = omega (arith, length-append a b, f.most);
      fault = subst (λ (m : ℕ). Rose m (faults_at port new)) same f.fault;
      after = f.after ∙ ap (with_faults port (faults_at port new)) here;
    }

-- a write of the front fails: so does the write of all
pub FailsAfterWriting-sooner : (port : Port) (a b : List ℕ) (old new : DeskState)
    → FailsAfterWriting port a old new → FailsAfterWriting port (a ++ b) old new
FailsAfterWriting-sooner port a b old new f = record {
  written = f.written;
  most = omega (arith, length-append a b, f.most);
  fault = f.fault;
  after = f.after ∙ ap (λ (c : List ℕ). with_faults port (faults_at port new) (appended port c old)) (sym (take-append-le f.written a b f.most));
}
