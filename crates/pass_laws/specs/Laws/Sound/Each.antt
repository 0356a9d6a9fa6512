-- The small changes of a state, each with what must hold of what it writes.
use Rattle.std.specs.Prelude.{ℕ, Bool, true, false, cond, ◌≡◌, set, Option, None, Some}
use Rattle.std.proofs.Common.{sym, ◌∙◌}
use Rattle.std.proofs.Math.Decide.{ℕ_discrete}
use Rattle.std.proofs.Math.ListN.{get_or}
use Rattle.std.proofs.Math.Seq.{get_or-set_other}
use Rattle.tree.specs.Tree.{Ident}
use Rattle.scope_map.specs.ScopeMap.{ScopeMap, Live, get}
use Rattle.semantic.specs.Rows.{Row, Blank, Variable, Function, CallSite, Let, ListEntry, no_list_entry}
use Rattle.semantic.specs.declared.SemanticInformation.{SemanticInformation}
use Rattle.tree.specs.Accepted.{All}
use Rattle.pass.specs.State.{Entry, Facts, Capture, Noted, State, no_entry, with_facts, with_names, with_captures, with_context, with_noted, binder_in, newest, list_entry_at, row_at, insert, amended, amend, put_entry}
use Rattle.pass_laws.specs.Sound.{Property, uses_in, Each, IsNamed}
use Rattle.pass_laws.specs.Laws.All.{all_map}
use Rattle.pass_laws.specs.Laws.Sound.Lists.{set_each, Maybe, Values, get_value}

-- a captured entry with its count
abbrev pub Fine : Property → (ℕ → Type 0) → ListEntry → Type 0
Fine Q F x = Q.list_entry x × F x.info.usage_count

-- an identifier's fact is changed
amended-uses : (F G : ℕ → Type 0) (f : SemanticInformation → SemanticInformation) → G 0
    → ((v : SemanticInformation) → F v.usage_count → G (f v).usage_count) → (r : Row) → F (uses_in r) → G (uses_in (amended f r))
amended-uses F G f z p Blank q = z
amended-uses F G f z p (Variable v) q = p v q
amended-uses F G f z p (Function v) q = z
amended-uses F G f z p (CallSite v) q = z
amended-uses F G f z p (Let v) q = z

binder_held : (P : Ident → Type 0) (o : Option (Live Ident)) → Maybe (λ e. P e.value) o → Maybe P (binder_in o)
binder_held P None p = tt
binder_held P (Some e) p = p

module _ {Q : Property} {F : ℕ → Type 0} where
  -- by a test
  pub each_either : (b : Bool) {s t : State} → Each Q F s → Each Q F t → Each Q F (cond b s t)
  each_either true p q = p
  each_either false p q = q

  -- context and refusals tell nothing
  each_aside : (c : ℕ) (n : Noted) {s : State} → Each Q F s → Each Q F (with_noted n (with_context c s))
  each_aside c n h = record {
    named = h.named;
    binders = h.binders;
    lasts = h.lasts;
    list_entries = h.list_entries;
    taken = h.taken;
    entry_uses = h.entry_uses;
    row_uses = h.row_uses;
    list_entry_uses = h.list_entry_uses;
    capture_uses = h.capture_uses;
    owned = h.owned;
  }

  pub each_context : (c : ℕ) {s : State} → Each Q F s → Each Q F (with_context c s)
  each_context c {s} h = each_aside c s.noted h

  pub each_noted : (n : Noted) {s : State} → Each Q F s → Each Q F (with_noted n s)
  each_noted n {s} h = each_aside s.context n h

  pub each_live : (m : ScopeMap Ident) {s : State} → All IsNamed m.live → Values Q.ident m.live → Each Q F s → Each Q F (with_names m s)
  each_live m n p h = record {
    named = n;
    binders = p;
    lasts = h.lasts;
    list_entries = h.list_entries;
    taken = h.taken;
    entry_uses = h.entry_uses;
    row_uses = h.row_uses;
    list_entry_uses = h.list_entry_uses;
    capture_uses = h.capture_uses;
    owned = h.owned;
  }

  pub each_captures : (m : ScopeMap Capture) {s : State} → Values (λ c. Q.capture c.row c.binder) m.live → Values (λ c. F c.usage_count) m.live
      → Each Q F s → Each Q F (with_captures m s)
  each_captures m p q h = record {
    named = h.named;
    binders = h.binders;
    lasts = h.lasts;
    list_entries = h.list_entries;
    taken = p;
    entry_uses = h.entry_uses;
    row_uses = h.row_uses;
    list_entry_uses = h.list_entry_uses;
    capture_uses = q;
    owned = h.owned;
  }

  pub fine : {s : State} → Each Q F s → (i : ℕ) → Fine Q F (list_entry_at s i)
  fine h i = (h.list_entries i, h.list_entry_uses i)

  -- other lists, and the same rows
  pub each_lists : (f : Facts) {s : State} → f.rows ≡ s.facts.rows → ((i : ℕ) → Fine Q F (get_or f.captured i no_list_entry)) → Each Q F s
      → Each Q F (with_facts f s)
  each_lists f e p h = record {
    named = h.named;
    binders = h.binders;
    lasts = h.lasts;
    list_entries = λ i. (p i).0;
    taken = h.taken;
    entry_uses = h.entry_uses;
    row_uses = rw e h.row_uses;
    list_entry_uses = λ i. (p i).1;
    capture_uses = h.capture_uses;
    owned = h.owned;
  }

  pub each_insert : (i : ℕ) (r : Row) {s : State} → F (uses_in r) → Each Q F s → Each Q F (insert i r s)
  unfolding insert
  each_insert i r {s} p h = record {
    named = h.named;
    binders = h.binders;
    lasts = h.lasts;
    list_entries = h.list_entries;
    taken = h.taken;
    entry_uses = h.entry_uses;
    row_uses = set_each (λ (r : Row). F (uses_in r)) Blank s.facts.rows i r p h.row_uses;
    list_entry_uses = h.list_entry_uses;
    capture_uses = h.capture_uses;
    owned = h.owned;
  }

  -- the binder of a name's newest entry
  pub newest-held : (x : ℕ) {s : State} → Each Q F s → Maybe Q.ident (newest s x)
  newest-held x {s} h = binder_held Q.ident (get s.scope.names x) (get_value Q.ident s.scope.names.live x h.binders)

  -- a binder's entry
  pub each_put : (b : Ident) (e : Entry) {s : State} → Q.ident b → ((y : Ident) → e.last_used ≡ Some y → Q.ident y) → F e.usage_count → Each Q F s
      → Each Q F (put_entry b.at e s)
  unfolding put_entry
  each_put b e {s} o p q h = record {
    named = h.named;
    binders = h.binders;
    lasts = set_each (λ (d : Entry). (y : Ident) → d.last_used ≡ Some y → Q.ident y) no_entry s.scope.entries b.at e p h.lasts;
    list_entries = h.list_entries;
    taken = h.taken;
    entry_uses = set_each (λ (d : Entry). F d.usage_count) no_entry s.scope.entries b.at e q h.entry_uses;
    row_uses = h.row_uses;
    list_entry_uses = h.list_entry_uses;
    capture_uses = h.capture_uses;
    owned = λ i n. other i n (ℕ_discrete i b.at);
  }
    where
      other : (i : ℕ) → ((b : Ident) → Q.ident b → b.at ≡ i → ⊥) → Dec (i ≡ b.at) → get_or (set s.scope.entries b.at e) i no_entry ≡ no_entry
      other i n (yes z) = absurd (n b o (sym z))
      other i n (no z) = get_or-set_other s.scope.entries b.at i e no_entry z ∙ h.owned i n

  -- what the fact at i counted before is G
  pub each_amend : (G : ℕ → Type 0) (f : SemanticInformation → SemanticInformation) (i : ℕ) {s : State} → F 0
      → ((v : SemanticInformation) → G v.usage_count → F (f v).usage_count) → G (uses_in (row_at s i)) → Each Q F s → Each Q F (amend f i s)
  unfolding amend
  each_amend G f i {s} z p g h = each_insert i (amended f (row_at s i)) (amended-uses G F f z p (row_at s i) g) h

  pub each_mark : (f : SemanticInformation → SemanticInformation) (i : ℕ) {s : State} → F 0
      → ((v : SemanticInformation) → F v.usage_count → F (f v).usage_count) → Each Q F s → Each Q F (amend f i s)
  each_mark f i z p h = each_amend F f i z p (h.row_uses i) h

-- a weaker bound on counts
pub each_more : {Q : Property} {F G : ℕ → Type 0} {s : State} → ((n : ℕ) → F n → G n) → Each Q F s → Each Q G s
each_more {Q} {F} {G} {s} w h = record {
  named = h.named;
  binders = h.binders;
  lasts = h.lasts;
  list_entries = h.list_entries;
  taken = h.taken;
  entry_uses = λ i. w _ (h.entry_uses i);
  row_uses = λ i. w _ (h.row_uses i);
  list_entry_uses = λ i. w _ (h.list_entry_uses i);
  capture_uses = all_map _ _ (λ c p. w _ p) s.captures.live h.capture_uses;
  owned = h.owned;
}
