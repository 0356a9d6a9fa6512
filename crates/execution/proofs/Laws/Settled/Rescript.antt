-- A second run over a whole script with no inner define.
use Prim.Native.Nat.{ℕ, ◌+◌, ◌≤◌, ◌<◌}
use mathlib.Core.List.{List, [], ◌∷◌, ◌++◌}
use Rattle.std.specs.Prelude.{Bool, cond, ◌≡◌, get_or, Option, None, Some}
use Rattle.std.proofs.Math.Bool.{true, false}
use Rattle.std.proofs.Common.{true≢false, sym, ◌∙◌, get_or-set_same}
use Rattle.std.proofs.Math.Path.{refl, ap, subst}
use native.Mathlib.Omega.{arith}
use Rattle.tree.specs.Tree.{Ident, Node, Tree, Trees, ident, const, if, letin, define, lambda, sequence, call, set!, nil, cons, size, Num}
use Rattle.tree.specs.Define.{defines, below, below_all}
use Rattle.scope_map.specs.ScopeMap.{ScopeMap, Live}
use Rattle.scope_map.specs.ScopeMap as map
use Rattle.semantic.specs.Information.{NONE}
use Rattle.semantic.specs.Rows.{Row}
use Rattle.semantic.specs.declared.IdentifierStatus.{IdentifierStatus}
use Rattle.r7rs.specs.Binding.{Binder, Use, Event, meant, top, walk, walk_all, enters, mentions, ends}
use Rattle.pass.specs.State.{Entry, Facts, State, no_entry, with_context, insert, put_entry, top_level_entry, newest}
use Rattle.pass.specs.Read.{enter, enter_define, enter_top_level_value}
use Rattle.pass.specs.Visit.{top_flags, is_lambda, visit, enter_children, visit_top_define, visit_top, visit_tops}
use Rattle.pass_laws.specs.Laws.Changes.{context, keeps_noted}
use Rattle.pass_laws.specs.Laws.Moves.{by}
use Rattle.pass_laws.specs.Laws.Names.{define_changes, shadow_changes}
use Rattle.pass_laws.specs.Laws.Visits.{stays, top-visited, tops_visited}
use Rattle.pass_laws.specs.Laws.Ranges.{Covers, tree_any, trees_any}
use Rattle.pass_laws.specs.Laws.Keeps.{Off, Agree, narrow, earlier}
use Rattle.pass_laws.specs.Spread.{Spread}
use Rattle.pass_laws.specs.Laws.Tops.{spread_end, spread_writes}
use Rattle.pass_laws.specs.Laws.Live.{none_left, none_right}
use Rattle.pass_laws.specs.Laws.Layers.{live_at}
use Rattle.pass_laws.specs.Laws.Says.{cell_of, uses_in, Each, SaysCell, Says}
use Rattle.pass_laws.specs.Laws.Finds.{Global}
use Rattle.pass_laws.specs.Laws.Onward.{Parts}
use Rattle.pass_laws.specs.Laws.Reads.{Only}
use Rattle.pass_laws.specs.Laws.Enters.{enter_captures, enter_entries}
use Rattle.pass_laws.specs.Laws.Bodies.{no_part}
use Rattle.pass_laws.specs.Laws.Forms.{Minus}
use Rattle.pass_laws.specs.Laws.Globals.{defined_in, all-defined, SparedBy, Spared, entered_all, spared_past, enter-all}
use Rattle.pass_laws.specs.Laws.Script.{bottom_for, Left, spared_before, SaysTops}
use Rattle.pass_laws.specs.Laws.Bottoms.{cell, CellsTops}
use Rattle.pass_laws.specs.Laws.Idle.{idle_steps}
use Rattle.pass_laws.specs.Laws.Preserved.{define_preserves, shadow_preserves, value_preserves}
use Rattle.execution.proofs.Laws.Settled.Kept.{Kept, KeptAll}
use Rattle.execution.proofs.Laws.Settled.Unsaid.{unsaid_steps}
use Rattle.execution.proofs.Laws.Settled.Refused.{second_by, first_second}
use Rattle.execution.proofs.Laws.Settled.Again.{catch_same, Script, tabled, Again, again_layered, calmly_again}
use Rattle.execution.proofs.Laws.Settled.Told.{TellsOf, TellsAll, tells_append}
use Rattle.execution.proofs.Laws.Settled.Refuses.{Pending}
use Rattle.execution.proofs.Laws.Settled.Bounded.{Bounded, BoundedAll}
use Rattle.execution.proofs.Laws.Settled.Did.{Did, fewer_again, pending_after, pending_part, did_after, did_ended, did_closed}
use Rattle.execution.proofs.Laws.Settled.Reforms.{idle_list-entry}
use Rattle.execution.proofs.Laws.Settled.Second.{again}

-- at top level, in no lambda
abbrev pub AgainTop : Script → (ℕ → Type 0) → List (Live Ident) → State → Type 0
AgainTop S own bottom s = Again S own bottom None None 1 [] top s

-- Defines enter

module _ (classes : List ℕ) (S : Script) {own left : ℕ → Type 0} {bottom : List (Live Ident)} {s : State} (x : Ident) (b : Tree)
    (parts : Parts own (Only x.at) left) (o : own x.at) (f : AgainTop S own bottom s) where
  define-again : (k : IdentifierStatus) (a : ℕ) → AgainTop S left (defined_in x bottom) (enter_define classes k a x b s)
  unfolding enter_define enter insert put_entry
  define-again k a =
      let c = by (define_changes {own = Only x.at} classes k a x b s refl) in
      let t = tabled parts f.tables c in
      let lists = define_preserves idle_steps classes k a x b s in
      let entered : Global left (enter x top_level_entry s).scope.entries (live_at 1 x) =
      record {
        layer = omega arith;
        depth = ap (λ (E : List Entry). (get_or E x.at no_entry).depth) (enter_entries x top_level_entry s)
            ∙ ap (λ (e : Entry). e.depth) (get_or-set_same s.scope.entries x.at top_level_entry no_entry (f.tables.entries x.at o));
        apart = λ l. parts.apart x.at l refl;
      } in
      record {
        tables = record { rows = t.rows; keys = t.keys; entries = t.entries; globals = all-defined _ x bottom entered t.globals; long = t.long };
        arguments = ap (λ (g : Facts). g.arguments) lists ∙ f.arguments;
        inside = tt;
        captures = catch_same (enter_captures x top_level_entry s) (ap (λ (g : Facts). g.captured) lists) f.captures;
        one = f.one;
        live = ap (λ (m : ScopeMap Ident). map.define x.name x m) f.live;
        around = tt;
        stands = tt;
      }

value_again : (classes : List ℕ) (S : Script) {own left : ℕ → Type 0} {bottom : List (Live Ident)} {s : State} (x : Ident) (b : Tree)
    → Parts own (Only x.at) left → own x.at
    → AgainTop S own bottom s → AgainTop S left (defined_in x bottom) (enter_top_level_value classes x b s)
unfolding enter_top_level_value
value_again classes S {s = s} x b parts o f =
    define-again classes S x b parts o (calmly_again S f no_part (λ free. shadow_changes classes (newest s x.name) s)
    (shadow_preserves idle_steps classes (newest s x.name) s)) _ _

pub tops_enter-again : (classes : List ℕ) (kind : IdentifierStatus) (S : Script) {own left : ℕ → Type 0} {bottom : List (Live Ident)} {s : State} (i j : ℕ) (ts : Trees) → Spread i j ts
    → Covers own i j
    → ((y : ℕ) → left y → own y) → ((y : ℕ) → left y → Spared ts y) → AgainTop S own bottom s → AgainTop S left (entered_all ts bottom) (enter_children classes kind ts s)
tops_enter-again classes kind S i j ts p o l a f =
    enter-all classes kind (AgainTop S) (λ own left bottom s. fewer_again S) (λ own left bottom s x b parts o f. define-again classes S x b parts o f kind NONE) i j ts p o l a f

-- The visits

module _ (classes : List ℕ) (S : Script) where
  abbrev DidTop : (ℕ → Type 0) → List (Live Ident) → List Event → ℕ → ℕ → ℕ → ℕ → State → State → Type 0
  DidTop left bottom l i j lo hi s t = Did classes S bottom left None None 1 [] top l i j lo hi s t

  module _ {own : ℕ → Type 0} {bottom : List (Live Ident)} {s : State} (lo hi : ℕ) (before : List Use) (f : AgainTop S own bottom s)
      (r : Pending S.C lo hi s) where
    define-top : (k : ℕ) (n : Node) (x : Ident) (b : Tree) (q : Bool) → is_lambda b ≡ q → Num k (define n x b) → defines b ≡ []
        → ((y : ℕ) → k ≤ y → y < k + size (define n x b) → SparedBy (define n x b) y → own y) → Kept S.T S.C S.A lo hi before top b
        → Bounded S.U S.G before top b
        → Says classes S.T (cell_of (cond q bottom (defined_in x bottom))) before (walk b top) → (visit_top_define classes q x b s).noted.nine ≡ None
        → DidTop (Minus own k (k + size (define n x b))) (cond q bottom (defined_in x bottom)) (walk b top) k (k + size (define n x b)) lo hi s
        (visit_top_define classes q x b s)
    unfolding Num size
    define-top k n x b true l m d o kept bounded says e =
        let s₁ = with_context x.id s in
        let s₂ = visit classes b top_flags s₁ in
        let B = again classes S bottom (k + 2) b m.2 d top_flags own None 1 [] top s₁ lo hi before refl
        (λ y u v. o y (omega arith) (omega arith) (λ g q. omega arith, tt)) kept bounded says refl refl tt
        (calmly_again S f no_part (λ free. context x.id) refl) (record { at = r.at }) e in
        let C = did_closed {left = Minus own k (k + size (define n x b))} k (k + size (define n x b)) (omega arith) (omega arith)
        (λ y z. (z.0, λ u v. z.1 (omega arith) (omega arith))) B in
        did_ended {t = s₂} k (k + size (define n x b)) (omega arith) (omega arith) (did_after s (λ r. refl) refl C) (by (context NONE))
        (calmly_again S C.again no_part (λ free. context NONE) refl) (λ r z. refl) refl
    define-top k n x b false l m d o kept bounded says e =
        let here = o x.at (omega arith) (omega arith) (λ g. absurd (true≢false (sym g ∙ l)), tt) in
        let next : ℕ → Type 0 = λ y. own y × ¬ (y ≡ x.at) in
        let parts : Parts own (Only x.at) next = record { written = λ y q. subst own (sym q) here; kept = λ y z. z.0; apart = λ y z q. z.1 q } in
        let s₁ = enter_top_level_value classes x b s in
        let idle = value_preserves idle_steps classes x b s in
        let B = again classes S (defined_in x bottom) (k + 2) b m.2 d top_flags next None 1 [] top s₁ lo hi before refl
        (λ y u v. (o y (omega arith) (omega arith) (λ g q. omega arith, tt), λ q. omega arith)) kept bounded says refl refl tt
        (value_again classes S x b parts here f)
        (record { at = λ v x y. idle_list-entry s s₁ idle v ∙ r.at v x y }) e in
        did_closed k (k + size (define n x b)) (omega arith) (omega arith) (λ y z. (
          (z.0, λ q. z.1 (omega arith) (omega arith)),
          λ u v. z.1 (omega arith)
              (omega arith),
        ))
        (did_after s (idle_list-entry s s₁ idle) (value_preserves unsaid_steps classes x b s) B)

    top_again : (k : ℕ) (t : Tree) → Num k t → below t ≡ [] → ((y : ℕ) → k ≤ y → y < k + size t → SparedBy t y → own y)
        → Kept S.T S.C S.A lo hi before top t
        → Bounded S.U S.G before top t → Says classes S.T (cell_of (bottom_for t bottom)) before (walk t top) → (visit_top classes t s).noted.nine ≡ None
        → DidTop (Minus own k (k + size t)) (bottom_for t bottom) (walk t top) k (k + size t) lo hi s (visit_top classes t s)
    unfolding visit_top visit below defines walk Kept Bounded
    top_again k (ident x) n d o q b c e = again classes S bottom k (ident x) n d top_flags own None 1 [] top s lo hi before refl (λ y l u. o y l u tt) q b c
        refl refl tt f r e
    top_again k (const m z) n d o q b c e = again classes S bottom k (const m z) n d top_flags own None 1 [] top s lo hi before refl (λ y l u. o y l u tt) q b c
        refl refl tt f r e
    top_again k (if m x y z) n d o q b c e = again classes S bottom k (if m x y z) n d top_flags own None 1 [] top s lo hi before refl (λ y l u. o y l u tt) q b
        c refl refl tt f r e
    top_again k (letin m xs es x) n d o q b c e = again classes S bottom k (letin m xs es x) n d top_flags own None 1 [] top s lo hi before refl
        (λ y l u. o y l u tt) q b c refl refl tt f r e
    top_again k (define m x y) n d o q b c e = define-top k m x y (is_lambda y) refl n d o q b c e
    top_again k (lambda m xs x) n d o q b c e = again classes S bottom k (lambda m xs x) n d top_flags own None 1 [] top s lo hi before refl
        (λ y l u. o y l u tt) q b c refl refl tt f r e
    top_again k (sequence m es) n d o q b c e = again classes S bottom k (sequence m es) n d top_flags own None 1 [] top s lo hi before refl (λ y l u. o y l u tt) q b
        c refl refl tt f r e
    top_again k (call m h es) n d o q b c e = again classes S bottom k (call m h es) n d top_flags own None 1 [] top s lo hi before refl (λ y l u. o y l u tt) q
        b c refl refl tt f r e
    top_again k (set! m x y) n d o q b c e = again classes S bottom k (set! m x y) n d top_flags own None 1 [] top s lo hi before refl (λ y l u. o y l u tt) q b
        c refl refl tt f r e

  -- what the rows tell, tree by tree
  abbrev pub TellsTops : List Row → List (Live Ident) → Trees → Type 0
  TellsTops R bottom nil = Unit {0}
  TellsTops R bottom (cons t ts) = TellsAll classes S R (cell_of (bottom_for t bottom)) (walk t top) × TellsTops R (bottom_for t bottom) ts

  pub record Toplevel (R : List Row) (bottom : List (Live Ident)) (ts : Trees) (s t : State) : Type 0 where
    pub tells : TellsTops R bottom ts
    pub second : s.noted.second ≡ None → t.noted.second ≡ second_by S (walk_all ts top)

  pub tops_again : (i j : ℕ) (ts : Trees) → Spread i j ts → below_all ts ≡ [] → (bottom : List (Live Ident)) (s : State) (lo hi : ℕ) (before : List Use)
      → KeptAll S.T S.C S.A lo hi before top ts → BoundedAll S.U S.G before top ts → SaysTops classes S.T before bottom ts
      → AgainTop S (Left i j ts) bottom s → Pending S.C lo hi s → (visit_tops classes ts s).noted.nine ≡ None → (R : List Row)
      → Agree i j R (visit_tops classes ts s) → Toplevel R bottom ts s (visit_tops classes ts s)
  unfolding visit_tops below_all Kept Bounded walk second_by
  tops_again i j nil p d bottom s lo hi before k b q f r e R ag = record { tells = tt; second = λ v. v }
  tops_again i j (cons t ts) p d bottom s lo hi before k b q f r e R ag =
      let i₁ = p.0 + size t in
      let l = p.1 in
      let end = spread_end i₁ j ts p.3 in
      let s₁ = visit_top classes t s in
      let h₀ = (again_layered S f).one in
      let h₁ = stays (top-visited classes t s (tree_any t) h₀) h₀ in
      let e₁ = (keeps_noted (tops_visited classes ts s₁ (trees_any ts) h₁)).nine e in
      let own : (y : ℕ) → p.0 ≤ y → y < i₁ → SparedBy t y → Left i j (cons t ts) y = λ y u v z.
      (omega arith, omega arith, (z, spared_before i₁ j ts p.3 y (omega arith))) in
      let left : (y : ℕ) → Left i₁ j ts y → Minus (Left i j (cons t ts)) p.0 i₁ y =
      λ y z. ((omega (arith, z.0), z.1, (spared_past p.0 t p.2 y (λ c d. omega (arith, z.0)), z.2)), λ c d. omega (arith, z.0)) in
      let l₁ : lo ≤ k.0 = k.1 in
      let l₂ : k.0 ≤ hi = k.2 in
      let D = top_again lo k.0 before f (pending_part lo k.0 r (omega arith) l₂) p.0 t p.2 (none_left (below t) (below_all ts) d) own k.3 b.0
      q.0 e₁ in
      let r₁ : Pending S.C k.0 hi s₁ = pending_after {C = S.C} s s₁ (pending_part k.0 hi r l₁ (omega arith)) D.outside (omega arith) in
      let later = tops_visited classes ts s₁ (spread_writes (Off p.0 i₁) i₁ j ts p.3 (λ x l u y z. omega arith)) h₁ in
      let rest = tops_again i₁ j ts p.3 (none_right (below t) (below_all ts) d) (bottom_for t bottom) s₁ k.0 hi (before ++ uses_in (walk t top)) k.4
      b.1 q.1 (fewer_again S left D.again) r₁ e R
      (narrow ag (omega arith) (omega arith)) in
      record {
        tells = (D.tells R (earlier ag (omega arith) (omega arith) (by later)), rest.tells);
        second = λ v. first_second S s₁ (visit_tops classes ts s₁) (walk t top) (walk_all ts top) (D.second v) rest.second (keeps_noted later);
      }

  -- with the cells of the script ts
  tells_cell : (R : List Row) (c d : Ident → Option Ident) (l : List Event) → Each (λ m. c m.ident ≡ d m.ident) l → TellsAll classes S R c l
      → TellsAll classes S R d l
  tells_cell R c d [] e p = tt
  tells_cell R c d (enters b sc ∷ l) e p = (p.0, tells_cell R c d l e p.1)
  tells_cell R c d (mentions m ∷ l) e p = (go (meant m) p.0, tells_cell R c d l e.1 p.1)
    where
      go : (o : Option Binder) → TellsOf classes S R c m o → TellsOf classes S R d m o
      go None q = subst (SaysCell classes R c m.ident m.place.site.layer) e.0 q
      go (Some b) q = q
  tells_cell R c d (ends i xs sc ∷ l) e p = tells_cell R c d l e p

  pub tops_tell : (ts : Trees) (R : List Row) (us : Trees) (l : List (Live Ident)) → CellsTops ts l us → TellsTops R l us
      → TellsAll classes S R (cell ts) (walk_all us top)
  unfolding walk
  tops_tell ts R nil l c s = tt
  tops_tell ts R (cons t us) l c s =
      tells_append classes S R (cell ts) (walk t top) (walk_all us top) (tells_cell R _ (cell ts) (walk t top) c.0 s.0)
      (tops_tell ts R us (bottom_for t l) c.1 s.1)
