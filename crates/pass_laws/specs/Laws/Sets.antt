-- A name is set on a fresh run: its entry is mutated, then it is read.
use Rattle.std.specs.Prelude.{ℕ, Bool, true, false, ◌&&◌, ◌||◌, ◌≡◌, set, eqb, Option, None, Some}
use mathlib.Core.List.{List, [], ◌∷◌, ◌++◌, append-nil}
use Rattle.std.proofs.Math.Bool.{or-false, or-true}
use Rattle.std.proofs.Math.Path.{refl, subst}
use Rattle.std.proofs.Common.{ap, sym, ◌∙◌, arith, eq-eqb}
use Rattle.tree.specs.Tree.{Ident}
use Rattle.tree.specs.Accepted.{All}
use Rattle.scope_map.specs.ScopeMap.{Live}
use Rattle.semantic.specs.Rows.{Row}
use Rattle.semantic.specs.declared.IdentifierStatus.{IdentifierStatus}
use Rattle.r7rs.specs.Binding.{Binder, Place, Mention, Use, find, is_inner, use_of}
use Rattle.pass.specs.State.{Entry, State, insert, amend, entry_at, put_entry, binder_in}
use Rattle.pass.specs.Read.{read, mutate_at, mutate}
use Rattle.pass_laws.specs.Laws.Moves.{by}
use Rattle.pass_laws.specs.Laws.Names.{set_changes}
use Rattle.pass_laws.specs.Laws.Says.{cell_of, Tells, kind_of, SaysOf, used_inside, is_set_in}
use Rattle.pass_laws.specs.Laws.Finds.{entry_in, Around, Stands, Global, Finds, all_map, all_zip, live_in, Of, of_none, of_some, Got, got_none, got_some, search_for}
use Rattle.pass_laws.specs.Laws.Onward.{Parts, onward, one_use, same_flags, other_held}
use Rattle.pass_laws.specs.Laws.Reads.{Only, read_at, kept_flag, raised_flag, used_finds, read_finds, KeyIn, read_says}

abbrev pub set_at : Ident → Place → Mention
set_at x p = record { ident = x; is_set = true; place = p }

-- the part of the use that mutates
abbrev pub mutation : Ident → Option Binder → List Use
mutation x None = []
mutation x (Some b) = record { at = x.at; binder = b.ident.at; is_inner = false; is_set = true } ∷ []

abbrev Nowhere : ℕ → Type 0
Nowhere x = ⊥

no_part : {own : ℕ → Type 0} → Parts own Nowhere own
no_part = record { written = λ x o. absurd o; kept = λ x o. o; apart = λ x o n. n }

module _ {own : ℕ → Type 0} {bottom : List (Live Ident)} {before : List Use} {p : Place} {s : State} (x : Ident) (f : Finds own bottom before p s) where
  -- a name of the bottom: its entry is no name's in scope
  other_stands : (e : Live Ident) (d : Entry) → Global own s.scope.entries e → All (Stands own (set s.scope.entries e.value.at d) before) p.scope
  other_stands e d g =
      all_map (λ b k.
      record {
        held = other_held e.value.at d
            (λ z. omega (arith, k.0.above, k.1.held.depth, g.depth, ap (λ (i : ℕ). (entry_in s.scope.entries i).depth) z)) k.1.held;
        apart = k.1.apart;
      })
      p.scope (all_zip _ _ p.scope f.around f.stands)

  sets : {o : Option Binder} {q : Option (Live Ident)} → Of (λ b. Around p.site.layer p.around b × Stands own s.scope.entries before b) o
      → Got (Global own s.scope.entries) q → Finds own bottom (before ++ mutation x o) p (mutate_at (binder_in (live_in o q)) s)
  unfolding insert amend put_entry
  sets of_none got_none = rw append-nil f
  sets of_none (got_some {e} g) =
      rw append-nil (onward no_part f before (by (set_changes (Some e.value) s)) refl f.captures f.unused (other_stands e _ g))
  sets (of_some {b} (a, k)) g =
      used_finds b.ident.at _ no_part f k.apart (one_use before _)
      (record { captured = kept_flag refl; mutated = raised_flag (entry_at s b.ident.at).mutated refl; kept = refl })
      (set_changes (Some b.ident) s) refl refl refl

  pub mutate_finds : Finds own bottom (before ++ mutation x (find p.scope x.name)) p (mutate x.name s)
  unfolding mutate
  mutate_finds =
      let q = search_for f x.name in
      subst (λ (o : Option (Live Ident)). Finds own bottom (before ++ mutation x (find p.scope x.name)) p (mutate_at (binder_in o) s)) (sym q.found) (sets q.meant q.global)

-- both parts make the use

same_uses : {own : ℕ → Type 0} {bottom : List (Live Ident)} {before after : List Use} {p : Place} {s : State} → ((c : ℕ) → used_inside c before ≡ used_inside c after)
    → ((c : ℕ) → is_set_in c before ≡ is_set_in c after) → Finds own bottom before p s → Finds own bottom after p s
same_uses {p = p} c m f =
    record {
      tables = f.tables;
      unused = λ x o. record { captured = sym (c x) ∙ (f.unused x o).captured; mutated = sym (m x) ∙ (f.unused x o).mutated };
      captures = f.captures;
      one = f.one;
      live = f.live;
      around = f.around;
      stands = all_map (λ b k. record { held = same_flags (c b.ident.at) (m b.ident.at) k.held; apart = k.apart }) p.scope f.stands;
    }

module _ (x : Ident) (p : Place) (before : List Use) where
  two_uses : {own : ℕ → Type 0} {bottom : List (Live Ident)} {s : State} (o : Option Binder) → Finds own bottom ((before ++ mutation x o) ++ use_of (read_at x p) o) p s
      → Finds own bottom (before ++ use_of (set_at x p) o) p s
  two_uses None f = rw (append-nil (before ++ [])) at f
  two_uses (Some b) f =
      let mutates = one_use before (record { at = x.at; binder = b.ident.at; is_inner = false; is_set = true }) in
      let reads = one_use (before ++ mutation x (Some b)) (record { at = x.at; binder = b.ident.at; is_inner = is_inner (read_at x p) b; is_set = false }) in
      let sets_it = one_use before (record { at = x.at; binder = b.ident.at; is_inner = is_inner (read_at x p) b; is_set = true }) in
      same_uses
      (λ c. reads.captured c ∙ ap (λ (q : Bool). q || (is_inner (read_at x p) b && eqb b.ident.at c)) (mutates.captured c ∙ or-false (used_inside c before)) ∙ sym (sets_it.captured c))
      (λ c. reads.mutated c ∙ or-false _ ∙ mutates.mutated c ∙ sym (sets_it.mutated c)) f

  set_kind : (b : Binder) → kind_of (before ++ mutation x (Some b)) (read_at x p) b ≡ kind_of before (set_at x p) b
  set_kind b =
      let u = one_use before (record { at = x.at; binder = b.ident.at; is_inner = false; is_set = true }) in
      let c : used_inside b.ident.at (before ++ mutation x (Some b)) ≡ used_inside b.ident.at before = u.captured b.ident.at ∙ or-false _ in
      let m : is_set_in b.ident.at (before ++ mutation x (Some b)) ≡ true =
      u.mutated b.ident.at ∙ ap (λ (q : Bool). is_set_in b.ident.at before || q) (eq-eqb b.ident.at b.ident.at refl) ∙ or-true (is_set_in b.ident.at before) in
      rw (c, m)

  set_says : (classes : List ℕ) (T : List Row) (cell : Ident → Option Ident) (o : Option Binder) → SaysOf classes T cell (before ++ mutation x o) (read_at x p) o
      → SaysOf classes T cell before (set_at x p) o
  set_says classes T cell None e = e
  set_says classes T cell (Some b) e = subst (λ (k : IdentifierStatus). Tells T x.at k b.ident.id p.site.layer b.home.slot) (set_kind b) e

-- the target of a set!, after its expression
module _ (classes : List ℕ) {own left : ℕ → Type 0} {bottom : List (Live Ident)} {before : List Use} {p : Place} {s : State} (x : Ident)
    (parts : Parts own (Only x.at) left) (f : Finds own bottom before p s) where
  pub target_finds : Finds left bottom (before ++ use_of (set_at x p) (find p.scope x.name)) p (read classes x (mutate x.name s))
  target_finds = two_uses x p before (find p.scope x.name) (read_finds classes x parts (mutate_finds x f))

  pub target_says : (T : List Row) → own x.at → KeyIn T x.at (read classes x (mutate x.name s))
      → SaysOf classes T (cell_of bottom) before (set_at x p) (find p.scope x.name)
  target_says T o e = set_says x p before classes T (cell_of bottom) (find p.scope x.name) (read_says classes x (mutate_finds x f) o e)
