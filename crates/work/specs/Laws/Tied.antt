-- One row of the facts or one entry changes: the tables hold the state so changed.
use Rattle.std.specs.Prelude.{ℕ, ◌<◌, List, Bool, true, false, ◌&&◌, ◌≡◌, length, ltb}
use Rattle.std.proofs.Math.Path.{refl}
use Rattle.std.proofs.Common.{ap, sym, ◌∙◌}
use Rattle.std.proofs.Math.ListN.{length-set}
use Rattle.table.specs.Layout.{layout}
use Rattle.tree.specs.Tree.{Ident}
use Rattle.scope_map.specs.ScopeMap.{has_at_top}
use Rattle.semantic.specs.Rows.{Row, Blank, put_row, put_list_entry}
use Rattle.semantic.specs.Amend.{amended}
use Rattle.semantic.specs.Leaves.{Stores, Amends}
use Rattle.semantic.specs.declared.SemanticInformation.{SemanticInformation}
use Rattle.pass.specs.State.{State, Facts, Entry, insert, amend, row_at, put_entry, depth}
use Rattle.pass.specs.Read.{note_live, enter}
use Rattle.work.specs.Coded.{coded}
use Rattle.work.specs.Works.{Works}
use Rattle.work.specs.Laws.Kept.{insert_kept}
use Rattle.work.specs.Leaves.{StoresEntry}
use Rattle.work.specs.Tied.{row_count, raw, Tied}
use Rattle.work.specs.declared.Pass.{Pass}
use Rattle.work.specs.declared.entries.Entry.{Entry as Coded}

-- The facts that a change leaves, and how many rows there are

module _ (s : State) (i : ℕ) where
  pub count-insert : (r : Row) → row_count (insert i r s) ≡ row_count s
  unfolding insert
  count-insert r = length-set s.facts.rows i r

  pub count-amend : (f : SemanticInformation → SemanticInformation) → row_count (amend f i s) ≡ row_count s
  unfolding amend
  count-amend f = count-insert (amended f (row_at s i))

  pub facts_entry : (e : Entry) → (put_entry i e s).facts ≡ s.facts
  unfolding put_entry
  facts_entry e = refl

  pub count-entry : (e : Entry) → row_count (put_entry i e s) ≡ row_count s
  count-entry e = ap (λ (f : Facts). length f.rows) (facts_entry e)

live_facts : (b : Bool) (i : ℕ) (s : State) → (note_live b i s).facts ≡ s.facts
live_facts true i s = refl
live_facts false i s = refl

-- a name that enters changes no fact
pub enter_facts : (x : Ident) (e : Entry) (s : State) → (enter x e s).facts ≡ s.facts
unfolding enter put_entry
enter_facts x e s = live_facts (ltb 1 (depth s) && has_at_top s.scope.names x.name) x.at s

-- a change that leaves the facts alone
pub tied_works : {p q : Pass} {F C A w w' : List ℕ} {s : State} (s' : State) → Tied (raw p F C A w) s
    → s'.facts ≡ s.facts → Works q w' s' → Tied (raw q F C A w') s'
tied_works s' t e k = record {
  facts = t.facts ∙ ap (λ (f : Facts). layout put_row f.rows) (sym e);
  captured = t.captured ∙ ap (λ (f : Facts). layout put_list_entry f.captured) (sym e);
  arguments = t.arguments ∙ ap (λ (f : Facts). layout put_list_entry f.arguments) (sym e);
  works = k;
}

module _ {p : Pass} {F C A w : List ℕ} {s : State} (t : Tied (raw p F C A w) s) {i : ℕ} where
  pub tied_insert : {r : Row} {F' : List ℕ} → i < row_count s → Stores put_row F i r F' → Tied (raw p F' C A w) (insert i r s)
  unfolding insert
  tied_insert {r} h k = record {
    facts = k.is s.facts.rows t.facts h;
    captured = t.captured;
    arguments = t.arguments;
    works = insert_kept t.works i r;
  }

  pub tied_change : {f : Row → Row} {F' : List ℕ} → i < row_count s → Amends put_row Blank f F i F' → Tied (raw p F' C A w) (insert i (f (row_at s i)) s)
  unfolding insert
  tied_change {f} h k = record {
    facts = k.is s.facts.rows t.facts h;
    captured = t.captured;
    arguments = t.arguments;
    works = insert_kept t.works i (f (row_at s i));
  }

  pub tied_amend : {f : SemanticInformation → SemanticInformation} {F' : List ℕ} → i < row_count s → Amends put_row Blank (amended f) F i F'
      → Tied (raw p F' C A w) (amend f i s)
  unfolding amend
  tied_amend h k = tied_change h k

  pub tied_entry : {e : Coded} (v : Entry) {w' : List ℕ} → e ≡ coded v → StoresEntry w i e w' → Tied (raw p F C A w') (put_entry i v s)
  tied_entry v q k = tied_works (put_entry i v s) t (facts_entry s i v) (k.is p s v t.works q)
