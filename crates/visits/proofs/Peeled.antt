-- Where ands of one child are stepped over: what holds of what stands there and of what the tree is.
use Prim.Native.Nat.{ℕ, ◌≤◌, ◌<◌}
use mathlib.Core.List.{List}
use mathlib.Core.Path.{◌≡◌, refl, ◌∙◌}
use native.Mathlib.Omega.{arith}
use lib.ListN.{length}
use Rattle.tree.specs.Record.{records, nth}
use Rattle.tree.specs.Tree.{Ident, Node, Tree, Trees, ident, const, if, letin, define, lambda, sequence, call, set!, nil, cons, begins, ands, whens, size, Num}
use Rattle.tree.proofs.Laws.Core.{Peeled, same, none, peeled, size_core}
use Rattle.tree.specs.Define.{top_of}
use Rattle.tree.proofs.Laws.Parts.{own}
use Rattle.tree.specs.Stands.{Stands}
use Rattle.tree.proofs.Laws.Stands.{root, root_form}
use Rattle.tree.proofs.Laws.Stands.Forms.{BeginOf, begin_of}
use Rattle.pass.specs.State.{State}
use Rattle.pass.specs.Visit.{Flags, visit, visit_top}
use Rattle.pass_laws.specs.Sound.{Holds}
use Rattle.pass_laws.specs.Stage.{Blocks}
use Rattle.pass_laws.specs.Visitable.{Visitable}
use Rattle.walk.specs.Contract.{SomeTree, Reaches}

pub core_size : {c t : Tree} → Peeled c t → size c ≡ size t
unfolding size
core_size (same t) = refl
core_size (none n) = refl

-- The record that is reached
pub reached : {rs : List ℕ} {at top : ℕ} → SomeTree rs at → Reaches rs at top → (at ≤ top) × (top < length (records rs)) × (top < 4096)
reached s r =
    let t = s.tree.t in
    let o = root (r.is s.names t s.tree.stands) in
    (omega (arith, r.ends s.names t s.tree.stands, size_core t, core_size (peeled t)), o.inside, o.few)

-- A begin; any other tree stands at top level itself

begin_is : {c t : Tree} {n : Node} {es : Trees} → Peeled c t → t ≡ sequence (begins n) es → c ≡ sequence (begins n) es
begin_is (same t) e = e
begin_is (none n) e = cc

lone : (t : Tree) → ((own t).form ≡ 7 → ⊥) → top_of t ≡ cons t nil
unfolding top_of own
lone (ident x) h = refl
lone (const n q) h = refl
lone (if n a b c) h = refl
lone (letin n xs es b) h = refl
lone (define n x b) h = refl
lone (lambda n xs b) h = refl
lone (sequence (begins n) es) h = absurd (h refl)
lone (sequence (ands n) es) h = refl
lone (sequence (whens b n) es) h = refl
lone (call n f es) h = refl
lone (set! n x e) h = refl

lone_is : {c t : Tree} → Peeled c t → ((own t).form ≡ 7 → ⊥) → top_of c ≡ cons c nil
unfolding top_of
lone_is (same t) h = lone t h
lone_is (none n) h = refl

module _ {N : ℕ} {rs : List ℕ} {at : ℕ} {c t : Tree} (p : Peeled c t) (s : Stands N rs at t) where
  pub begin_core : (nth rs at).form ≡ 7 → BeginOf N rs at c begins
  begin_core e = let v = begin_of s e in record { n = v.n; es = v.es; is = begin_is p v.is; parts = v.parts }

  pub lone_core : ((nth rs at).form ≡ 7 → ⊥) → top_of c ≡ cons c nil
  lone_core h = lone_is p (λ e. h (root_form s ∙ e))

-- What a visit may rely on for the one it may rely on for the other, and both do the same

pub core_num : (i : ℕ) {c t : Tree} → Peeled c t → Num i t → Num i c
unfolding Num
core_num i (same t) m = m
core_num i (none n) m = m.0

pub peel_visitable : {P : Ident → Type 0} {i : ℕ} {c t : Tree} {f : Flags} {s : State} → Peeled c t → Num i t → Visitable P i c f s → Visitable P i t f s
unfolding size Holds Blocks
peel_visitable (same t) m w = w
peel_visitable (none n) m w = record { num = m; inside = w.inside; holds = w.holds; sound = w.sound; ample = w.ample; stage = w.stage }

pub core_visit : (classes : List ℕ) (s : State) {c t : Tree} → Peeled c t → visit_top classes t s ≡ visit_top classes c s
unfolding visit_top visit
core_visit classes s (same t) = refl
core_visit classes s (none n) = refl
