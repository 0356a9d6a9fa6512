-- Names enter on a fresh run: each has its entry and its row, and what is left.
use Prim.Native.Nat.{ℕ, suc, ◌+◌, ◌≤◌, ◌<◌}
use mathlib.Core.List.{List, [], ◌∷◌, reverse_aux}
use Rattle.std.specs.Prelude.{Bool, cond, ◌&&◌, ◌≡◌, length, ltb, Option, None}
use Rattle.std.proofs.Math.Bool.{true, false}
use Rattle.std.proofs.Math.Path.{refl, ap, subst}
use Rattle.std.proofs.Common.{sym, ◌∙◌, arith, ltb-true, get_or-set_same}
use Rattle.std.proofs.Math.ListN.{set, length-set}
use Rattle.tree.specs.Tree.{Ident, NumNames}
use Rattle.tree.specs.Site.{home_at}
use Rattle.tree.specs.Accepted.{All}
use Rattle.scope_map.specs.ScopeMap.{ScopeMap, Live, has_at_top}
use Rattle.semantic.specs.Information.{NONE, new}
use Rattle.semantic.specs.Rows.{Row, Variable}
use Rattle.semantic.specs.declared.IdentifierStatus.{IdentifierStatus}
use Rattle.semantic.specs.declared.IdentifierStatus.TheVariants.{Local, LetVar}
use Rattle.r7rs.specs.Binding.{Binder, Place, Use, entering, binders}
use Rattle.pass.specs.State.{Entry, Capture, State, no_entry, insert, put_entry, local_entry, depth}
use Rattle.pass.specs.Read.{span, note_live, enter}
use Rattle.pass.specs.Lambda.{enter_name, enter_names}
use Rattle.pass_laws.specs.Laws.Rows.{key, row_same}
use Rattle.pass_laws.specs.Laws.Changes.{keeps_key, keeps_lengths, keeps_noted}
use Rattle.pass_laws.specs.Laws.Moves.{by}
use Rattle.pass_laws.specs.Laws.Scopes.{Any, name_changes, names_changes}
use Rattle.pass_laws.specs.Laws.Ranges.{Covers, names_writes}
use Rattle.pass_laws.specs.Laws.Keeps.{But, Agree, narrow}
use Rattle.pass_laws.specs.Laws.Leaves.{names, in_layer, enter_name_lem}
use Rattle.pass_laws.specs.Laws.Layers.{live_at}
use Rattle.pass_laws.specs.Laws.Says.{cell_of, Tells, Says}
use Rattle.pass_laws.specs.Laws.Finds.{Around, Held, Stands, Finds, all_map, deep}
use Rattle.pass_laws.specs.Laws.Onward.{Parts, untouched, fewer, other_held}
use Rattle.pass_laws.specs.Laws.Reads.{Only, HasKey, KeyIn, tells}

-- the place p with another scope
abbrev pub in_scope : Place → List Binder → Place
in_scope p sc = record { scope = sc; around = p.around; site = p.site }

-- the binders bs have entered, at the n records from k on
pub record Entered (classes : List ℕ) (p : Place) (bottom : List (Live Ident)) (before : List Use) (left : ℕ → Type 0) (bs sc : List Binder) (k n : ℕ) (t : State) : Type 0 where
  pub finds : Finds left bottom before (in_scope p (reverse_aux bs sc)) t
  pub says : (T : List Row) → Agree k (k + n) T t → Says classes T (cell_of bottom) before (entering bs sc)

-- What entering leaves alone

module _ (x : Ident) (e : Entry) (s : State) where
  pub enter_captures : (enter x e s).captures ≡ s.captures
  unfolding enter put_entry
  enter_captures = go (ltb 1 (depth s) && has_at_top (names s) x.name)
    where
      go : (b : Bool) → (note_live b x.at s).captures ≡ s.captures
      go true = refl
      go false = refl

  pub enter_entries : (enter x e s).scope.entries ≡ set s.scope.entries x.at e
  unfolding enter put_entry
  enter_entries = go (ltb 1 (depth s) && has_at_top (names s) x.name)
    where
      go : (b : Bool) → set (note_live b x.at s).scope.entries x.at e ≡ set s.scope.entries x.at e
      go true = refl
      go false = refl

-- a name is bound where it stands
pub around_own : (layer : ℕ) (lambdas : List ℕ) (b : Binder) → 2 ≤ layer → b.home.layer ≡ layer → b.around ≡ lambdas → Around layer lambdas b
around_own layer lambdas b two l a =
    let same : length b.around ≡ length lambdas = ap length a in
    record {
      above = omega arith;
      most = omega arith;
      own = λ e. l;
      outer = λ e. absurd (omega (arith, ltb-true (length b.around) (length lambdas) e));
    }

module _ (kind : IdentifierStatus) (base : ℕ) (heaps : Option ℕ) (is_let : Bool) (p : Place) (two : 2 ≤ p.site.layer) where
  abbrev binder_of : ℕ → Ident → Binder
  binder_of j x = record { ident = x; is_let = is_let; place = j; around = p.around; home = home_at p.site (base + j) }

  module _ {own : ℕ → Type 0} {bottom : List (Live Ident)} {before : List Use} {sc : List Binder} {s : State} where
    new-held : (x : Ident) (j : ℕ) → Finds own bottom before (in_scope p sc) s → own x.at
        → Held (set s.scope.entries x.at (local_entry (base + j) (depth s))) before (binder_of j x)
    new-held x j f o =
        let here = get_or-set_same s.scope.entries x.at (local_entry (base + j) (depth s)) no_entry (f.tables.entries x.at o) in
        record {
          depth = ap (λ (k : Entry). k.depth) here ∙ deep f;
          slot = ap (λ (k : Entry). k.stack_offset) here;
          captured = ap (λ (k : Entry). k.captured) here ∙ sym (f.unused x.at o).captured;
          mutated = ap (λ (k : Entry). k.mutated) here ∙ sym (f.unused x.at o).mutated;
        }

    name_finds : {left : ℕ → Type 0} (x : Ident) (j h : ℕ) → Parts own (Only x.at) left → own x.at → Finds own bottom before (in_scope p sc) s
        → (enter_name kind base heaps [] false x j h s).noted.nine ≡ None → Finds left bottom before (in_scope p (binder_of j x ∷ sc)) (enter_name kind base heaps [] false x j h s)
    unfolding enter_name insert
    name_finds {left} x j h parts o f n =
        let e = local_entry (base + j) (depth s) in
        let en = enter_name_lem kind base heaps [] false x j h s (omega (arith, deep f)) n in
        record {
          tables = untouched parts f.tables (by (name_changes kind base heaps [] false x j h s refl));
          unused = λ y l. f.unused y (parts.kept y l);
          captures = ap (λ (m : ScopeMap Capture). m.live) (enter_captures x e s) ∙ f.captures;
          one = f.one;
          live = en.after ∙ ap (λ (m : ScopeMap Ident). in_layer m.depth (live_at m.depth x ∷ m.live)) f.live;
          around = (around_own p.site.layer p.around (binder_of j x) two refl refl, f.around);
          stands = subst (λ (E : List Entry). All (Stands left E before) (binder_of j x ∷ sc)) (sym (enter_entries x e s)) (
            record { held = new-held x j f o; apart = λ l. parts.apart x.at l refl },
            all_map (λ b k.
                record {
                  held = other_held x.at e (λ q. k.apart (subst own (sym q) o)) k.held;
                  apart = λ l. k.apart (parts.kept b.ident.at l);
                }) sc f.stands,
          );
        }

  -- the row of a name that has entered
  name_tells : (x : Ident) (j h : ℕ) (s : State) {T : List Row} → kind ≡ cond is_let LetVar Local → depth s ≡ p.site.layer → x.at < length s.facts.rows
      → KeyIn T x.at (enter_name kind base heaps [] false x j h s) → Tells T x.at (cond is_let LetVar Local) NONE p.site.layer NONE
  unfolding enter_name insert
  name_tells x j h s {T} e d l k =
      let r = Variable (new kind (depth s) (span x)) in
      let t = enter x (local_entry (base + j) (depth s)) s in
      let same = (keeps_lengths (name_changes {own = Any} kind base heaps [] false x j h s tt)).rows in
      let here : HasKey T x.at r = record { is = k.is ∙ ap key (row_same x.at r t (omega (arith, length-set t.facts.rows x.at r))) } in
      tells here e refl d refl

  pub enter-all : {own left : ℕ → Type 0} {bottom : List (Live Ident)} {before : List Use} {sc : List Binder} {s : State} (classes : List ℕ) (k : ℕ) (xs : List Ident) (j h : ℕ)
      → NumNames k xs → Covers own k (k + length xs) → ((y : ℕ) → left y → own y) → ((y : ℕ) → left y → k ≤ y → y < k + length xs → ⊥) → kind ≡ cond is_let LetVar Local
      → Finds own bottom before (in_scope p sc) s → (enter_names kind base heaps [] xs j h s).noted.nine ≡ None
      → Entered classes p bottom before left (binders is_let base p j xs) sc k (length xs) (enter_names kind base heaps [] xs j h s)
  unfolding enter_names NumNames binders entering
  enter-all classes k [] j h m o l a e f n = record { finds = fewer l f; says = λ T ag. tt }
  enter-all {own} {left} {sc = sc} {s} classes k (x ∷ xs) j h m o l a e f n =
      let t = enter_name kind base heaps [] false x j h s in
      let here = o x.at (omega arith) (omega arith) in
      let later = names_changes {own = But x.at} kind base heaps [] xs (suc j) h t (names_writes (But x.at) (k + 1) xs m.1 (λ y u v q. omega arith)) in
      let next : ℕ → Type 0 = λ y. own y × ¬ (y ≡ x.at) in
      let parts : Parts own (Only x.at) next = record { written = λ y q. subst own (sym q) here; kept = λ y z. z.0; apart = λ y z q. z.1 q } in
      let one = name_finds x j h parts here f ((keeps_noted later).nine n) in
      let rest = enter-all {own = next} {left = left} classes (k + 1) xs (suc j) h m.1 (λ y u v. (o y (omega arith) (omega arith), λ q. omega arith))
      (λ y z. (l y z, λ q. a y z (omega arith) (omega arith))) (λ y z u v. a y z (omega arith) (omega arith)) e one n in
      record {
        finds = rest.finds;
        says = λ T ag. (
          name_tells x j h s e (deep f) (f.tables.rows x.at here) (record { is = ag.at x.at (omega arith) (omega arith) ∙ keeps_key later x.at (λ q. q refl) }),
          rest.says T (narrow ag (omega arith) (omega arith)),
        );
      }
