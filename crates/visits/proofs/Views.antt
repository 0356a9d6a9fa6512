-- What is known where a visit begins: the part of a child, the state, and the identifiers of the tree.
use Rattle.std.specs.Prelude.{Option, Some}
use Prim.Native.Nat.{ℕ, ◌+◌, ◌*◌, ◌≤◌, ◌<◌}
use mathlib.Core.List.{List}
use mathlib.Core.Path.{◌≡◌, ap, subst, ◌∙◌}
use native.Mathlib.Omega.{arith}
use lib.ListN.{length, get_or, drop}
use lib.Seq.{get_or-drop}
use Rattle.tree.specs.Record.{Record, width, records, blank, nth}
use Rattle.tree.proofs.Laws.Record.{records-drop}
use Rattle.tree.specs.Tree.{Ident, Node, Tree, Trees}
use Rattle.tree.proofs.Laws.Within.{drop-records}
use Rattle.tree.specs.Stands.{Stands, StandAll}
use Rattle.scope_map.proofs.Laws.Map.{map-length}
use Rattle.semantic.specs.Rows.{Blank}
use Rattle.semantic.specs.Kinds.{function_in, let_in}
use Rattle.semantic.specs.declared.FunctionInformation.{FunctionInformation}
use Rattle.semantic.specs.declared.LetInformation.{LetInformation}
use Rattle.pass.specs.State.{State, row_at}
use Rattle.pass.specs.Visit.{Flags}
use Rattle.pass.specs.Run.{rows_most, list_entries_most}
use Rattle.pass_laws.specs.Stage.{end_of}
use Rattle.pass_laws.specs.Visitable.{Room, Visitable, VisitableArguments, VisitableChildren}
use Rattle.pass_laws.specs.Visitable as pass
use Rattle.work.specs.Known.{Known}
use Rattle.lists.specs.Contract.{Inside}
use Rattle.work.specs.Works.{record_at, row_of}
use Rattle.work.specs.Laws.Works.{captured_top_lem}
use Rattle.work.specs.Tied.{Raw, Tied}
use Rattle.flags.specs.declared.Flags.{Flags as Coded}
use Rattle.names.specs.Contract.{NamesRoom}
use Rattle.layers.specs.Contract.{Shallow, ListsFit, EndFits}
use Rattle.visits.specs.Contract.{Fit}

-- the part of a child that stands k records on
pub part-on : (rs : List ℕ) (at k : ℕ) {part p : List ℕ} → part ≡ drop (width * at) rs → p ≡ drop (width * k) part → p ≡ drop (width * (at + k)) rs
part-on rs at k e d = d ∙ ap (drop (width * k)) e ∙ drop-records rs at k

-- the records of the part are those from its tree's own on
module _ (rs : List ℕ) (at : ℕ) {part : List ℕ} (e : part ≡ drop (width * at) rs) where
  part_record : (i : ℕ) → nth part i ≡ nth rs (at + i)
  part_record i = ap (λ (l : List ℕ). nth l i) e ∙ ap (λ (l : List Record). get_or l i blank) (records-drop rs at) ∙ get_or-drop at (records rs) i blank

  pub own_record : nth part 0 ≡ nth rs at
  own_record =
      let z : at + 0 ≡ at = omega arith in
      part_record 0 ∙ ap (nth rs) z

-- a field that is read in the part: of the tree's own record, and of the one after it
module _ {classes rs part : List ℕ} {at : ℕ} {g : Coded} {z : Raw} (x : Fit classes rs part at g z) (field : Record → ℕ) {n : ℕ} where
  pub own_field : n ≡ field (nth part 0) → n ≡ field (nth rs at)
  own_field e = e ∙ ap field (own_record rs at x.is)

  pub next_field : n ≡ field (nth part 1) → n ≡ field (nth rs (at + 1))
  next_field e = e ∙ ap field (part_record rs at x.is 1)

pub small : {rs : List ℕ} (x : Ident) → Known rs x → x.at < rows_most
small x k = k.few

-- at the same record, told in another way

pub stands_at_lem : {N : ℕ} {rs : List ℕ} {i j : ℕ} {t : Tree} → i ≡ j → Stands N rs i t → Stands N rs j t
stands_at_lem {N} {rs} {t = t} e x = subst (λ (k : ℕ). Stands N rs k t) e x

pub stand_all-at : {N : ℕ} {rs : List ℕ} {i j : ℕ} {ts : Trees} → i ≡ j → StandAll N rs i ts → StandAll N rs j ts
stand_all-at {N} {rs} {ts = ts} e x = subst (λ (k : ℕ). StandAll N rs k ts) e x

pub visitable_at : {P : Ident → Type 0} {i j : ℕ} {t : Tree} {f : Flags} {s : State} → i ≡ j → Visitable P i t f s → Visitable P j t f s
visitable_at {P} {t = t} {f} {s} e x = subst (λ (k : ℕ). Visitable P k t f s) e x

pub arguments_at_lem : {P : Ident → Type 0} {i j : ℕ} {ts : Trees} {f : Flags} {s : State} → i ≡ j → VisitableArguments P i ts f s → VisitableArguments P j ts f s
arguments_at_lem {P} {ts = ts} {f} {s} e x = subst (λ (k : ℕ). VisitableArguments P k ts f s) e x

pub children_at : {P : Ident → Type 0} {i j : ℕ} {ts : Trees} {f : Flags} {s : State} → i ≡ j → VisitableChildren P i ts f s → VisitableChildren P j ts f s
children_at {P} {ts = ts} {f} {s} e x = subst (λ (k : ℕ). VisitableChildren P k ts f s) e x

-- k names have room among the code's rows
pub names_room : {z : Raw} {s : State} {k m : ℕ} → Tied z s → k ≡ m → length s.scope.names.live + m ≤ rows_most → NamesRoom z.pass k
names_room {z} {s} {k} {m} t e h =
    let l : z.pass.scope.length ≡ length s.scope.names.live = t.works.names.many ∙ map-length record_at s.scope.names.live in
    omega arith

-- both maps can open a layer
pub shallow : {z : Raw} {s : State} {k : ℕ} → Tied z s → Room k s → Shallow z.pass
shallow t r = record { scope = omega (arith, t.works.names.depth, r.layers); captures = omega (arith, t.works.captures.depth, r.capture_layers) }

-- the lists of a lambda that begins, and of one that ends

pub lists-fit : {z : Raw} {s : State} {i j : ℕ} → Tied z s → i ≡ j → pass.ListsFit s i → ListsFit z.pass s j
lists-fit {z} {s} {i} {j} t e h v f =
    let b = h v (ap (λ (k : ℕ). function_in (row_at s k)) e ∙ f) in
    let l : z.pass.captures.length ≡ length s.captures.live = t.works.captures.many ∙ map-length row_of s.captures.live in
    (b.0, b.1, omega (arith, b.2))

pub end_fits : {P : Ident → Type 0} {z : Raw} {s : State} {i j : ℕ} → Tied z s → i ≡ j → pass.LambdaEnds P i s → EndFits z.pass s j
end_fits {s = s} t e b =
    let f = ap (λ (k : ℕ). function_in (row_at s k)) e in
    record { made = λ h. b.made (f ∙ h); amended = λ v h. b.amended v (f ∙ h); captured = omega (arith, captured_top_lem t.works, b.captured) }

-- a let that begins, and one that ends

pub let_list : (s : State) {i j : ℕ} → i ≡ j → ((v : LetInformation) → let_in (row_at s i) ≡ Some v → end_of v.arguments ≤ list_entries_most)
    → (v : LetInformation) → let_in (row_at s j) ≡ Some v → Inside v.arguments
let_list s e h v f = h v (ap (λ (k : ℕ). let_in (row_at s k)) e ∙ f)

pub let_outer : (s : State) {o : Option Node} → ((m : Node) → o ≡ Some m → (m.at < rows_most) × pass.CapturedFits s m.at)
    → (m : Node) → o ≡ Some m → (m.at < rows_most) × ((v : FunctionInformation) → function_in (row_at s m.at) ≡ Some v → Inside v.captured_vars)
let_outer s h m e = ((h m e).0, λ v f. (h m e).1 v f)

pub let_blank : (s : State) {i j k m : ℕ} → i ≡ j → k ≡ m → (row_at s i ≡ Blank → s.facts.arguments_top + m ≤ list_entries_most)
    → row_at s j ≡ Blank → s.facts.arguments_top + k ≤ list_entries_most
let_blank s {k = k} {m = m} e u h f = let b = h (ap (row_at s) e ∙ f) in omega arith
