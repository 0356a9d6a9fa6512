-- What counts, marks and notes leaves alone: the live names, the layers of the captures, and how far each table of lists is filled.
use Prim.Native.Nat.{ℕ, zero, suc, ◌≤◌}
use Rattle.std.specs.Prelude.{List, [], ◌∷◌, Bool, cond, ◌&&◌, ◌≡◌, eqb, ltb, Option, None, Some}
use Rattle.std.proofs.Math.Bool.{true, false}
use Rattle.std.proofs.Math.Path.{refl}
use Rattle.std.proofs.Common.{ap, ◌∙◌, arith}
use Rattle.tree.specs.Tree.{Ident}
use Rattle.scope_map.specs.ScopeMap.{ScopeMap, Live, has_at_top, push_layer}
use Rattle.scope_map.specs.ScopeMap as map
use Rattle.semantic.specs.Rows.{Row, Blank, Variable, Function, CallSite, Let, ListEntry}
use Rattle.semantic.specs.Amend.{used_or}
use Rattle.semantic.specs.declared.FunctionInformation.{FunctionInformation}
use Rattle.semantic.specs.declared.ScopeInfo.{ScopeInfo}
use Rattle.semantic.specs.declared.SemanticInformation.{SemanticInformation}
use Rattle.pass.specs.State.{Entry, Capture, State, list_entry_at, row_at, insert, amended, amend, put_entry, depth, with_names, with_captures}
use Rattle.pass.specs.Read.{note_live, enter, use_in, used_capture, use_capture}
use Rattle.pass.specs.Lists.{is_of, number_row, number_rows, number_list, numbered_capture, numbered_heap}
use Rattle.pass.specs.Lambda.{open_captures}
use Rattle.pass_laws.specs.Stage.{layers_of, held}
use Rattle.pass_laws.specs.Laws.Stage.Lists.{Shorter, same_rows, shorter_then, shorter_put, held-amended}
use Rattle.pass_laws.specs.Laws.Preserved.{Preserves}

-- the tables of lists are as full, 10 as noted, and no list is longer
pub record Stored (s t : State) : Type 0 where
  pub arguments : t.facts.arguments_top ≡ s.facts.arguments_top
  pub captured : t.facts.captured_top ≡ s.facts.captured_top
  pub ten : t.noted.ten ≡ s.noted.ten
  pub shorter : Shorter s t

-- the captures have the same layers
pub record Stacked (s t : State) : Type 0 where
  pub depth : t.captures.depth ≡ s.captures.depth
  pub layers : layers_of t.captures.live ≡ layers_of s.captures.live

-- but for the live names
pub record Apart (s t : State) : Type 0 where
  pub stored : Stored s t
  pub stacked : Stacked s t

pub record Still (s t : State) : Type 0 where
  pub apart : Apart s t
  pub names : t.scope.names ≡ s.scope.names

pub as_full : {s t : State} → t.facts.arguments_top ≡ s.facts.arguments_top → t.facts.captured_top ≡ s.facts.captured_top
    → t.noted.ten ≡ s.noted.ten → t.facts.rows ≡ s.facts.rows → Stored s t
as_full a c t r = record { arguments = a; captured = c; ten = t; shorter = same_rows r }

pub as_stacked : {s t : State} → t.captures ≡ s.captures → Stacked s t
as_stacked m = record { depth = ap (λ (k : ScopeMap Capture). k.depth) m; layers = ap (λ (k : ScopeMap Capture). layers_of k.live) m }

pub standing : {s t : State} → Stored s t → t.captures ≡ s.captures → Apart s t
standing f m = record { stored = f; stacked = as_stacked m }

unmoved : {s t : State} → Apart s t → t.scope.names ≡ s.scope.names → Still s t
unmoved a n = record { apart = a; names = n }

pub still : {s : State} → Still s s
still = unmoved (standing (as_full refl refl refl refl) refl) refl

pub stored-then : {s t u : State} → Stored s t → Stored t u → Stored s u
stored-then p q =
    record {
      arguments = q.arguments ∙ p.arguments;
      captured = q.captured ∙ p.captured;
      ten = q.ten ∙ p.ten;
      shorter = shorter_then p.shorter q.shorter;
    }

pub stacked_then : {s t u : State} → Stacked s t → Stacked t u → Stacked s u
stacked_then p q = record { depth = q.depth ∙ p.depth; layers = q.layers ∙ p.layers }

pub apart_then : {s t u : State} → Apart s t → Apart t u → Apart s u
apart_then p q = record { stored = stored-then p.stored q.stored; stacked = stacked_then p.stacked q.stacked }

infixl 40 ◌⨾◌
pub ◌⨾◌ : {s t u : State} → Still s t → Still t u → Still s u
p ⨾ q = record { apart = apart_then p.apart q.apart; names = q.names ∙ p.names }

-- Rows and entries

pub row_still : (i : ℕ) (r : Row) (s : State) → held r ≤ held (row_at s i) → Still s (insert i r s)
unfolding insert
row_still i r s h =
    unmoved (standing (record { arguments = refl; captured = refl; ten = refl; shorter = shorter_put i r (same_rows refl) h }) refl) refl

-- an identifier's fact is made
pub fact_still : (i : ℕ) (v : SemanticInformation) (s : State) → Still s (insert i (Variable v) s)
fact_still i v s = row_still i (Variable v) s (omega arith)

pub mark_still : (f : SemanticInformation → SemanticInformation) (i : ℕ) (s : State) → Still s (amend f i s)
unfolding amend
mark_still f i s = row_still i (amended f (row_at s i)) s (omega (arith, held-amended f (row_at s i)))

pub entry_still : (i : ℕ) (e : Entry) (s : State) → Still s (put_entry i e s)
unfolding put_entry
entry_still i e s = unmoved (standing (as_full refl refl refl refl) refl) refl

-- A name is read, or set

use_layers : (x : ℕ) (l : List (Live Capture)) → layers_of (use_in x l) ≡ layers_of l
unfolding use_in
use_layers x [] = refl
use_layers x (e ∷ l) = pick (eqb e.name x) (use_layers x l)
  where
    pick : (b : Bool) → layers_of (use_in x l) ≡ layers_of l
        → layers_of (cond b (record { name = e.name; layer = e.layer; value = used_capture e.value } ∷ l) (e ∷ use_in x l)) ≡ e.layer ∷ layers_of l
    pick true h = refl
    pick false h = ap (λ (k : List ℕ). e.layer ∷ k) h

use_still : (x : ℕ) (s : State) → Still s (use_capture x s)
use_still x s =
    record {
      apart = record { stored = as_full refl refl refl refl; stacked = record { depth = refl; layers = use_layers x s.captures.live } };
      names = refl;
    }

used-held : (v : SemanticInformation) (r : Row) → held (used_or v r) ≤ held r
used-held v Blank = omega arith
used-held v (Variable w) = omega arith
used-held v (Function w) = omega arith
used-held v (CallSite w) = omega arith
used-held v (Let w) = omega arith

pub still_steps : Preserves (Unit {0}) ⊥ Still
still_steps = record {
  same = λ s. still;
  join = λ p q. p ⨾ q;
  mark = mark_still;
  fact = fact_still;
  site = λ i v s. row_still i _ s (omega arith);
  entry = entry_still;
  context = λ c s. unmoved (standing (as_full refl refl refl refl) refl) refl;
  used = λ o i v s. row_still i _ s (used-held v (row_at s i));
  capture = λ o x s. use_still x s;
  second = λ o n i s. unmoved (standing (as_full refl refl refl refl) refl) refl;
  names = λ o. absurd o;
  nine = λ o. absurd o;
}

-- Names enter: all is still but the live names

-- a name enters, and the rest is still
pub record Names (x : Ident) (s t : State) : Type 0 where
  pub apart : Apart s t
  pub live : t.scope.names ≡ map.define x.name x s.scope.names

names-enter : (b : Bool) (x : Ident) (e : Entry) (s : State)
    → Names x s (put_entry x.at e (with_names (map.define x.name x s.scope.names) (note_live b x.at s)))
unfolding put_entry
names-enter true x e s = record { apart = standing (as_full refl refl refl refl) refl; live = refl }
names-enter false x e s = record { apart = standing (as_full refl refl refl refl) refl; live = refl }

pub enter-names : (x : Ident) (e : Entry) (s : State) → Names x s (enter x e s)
unfolding enter
enter-names x e s = names-enter (ltb 1 (depth s) && has_at_top s.scope.names x.name) x e s

-- A lambda's list is numbered: all is still but the captures

pub record Listed (s t : State) : Type 0 where
  pub stored : Stored s t
  pub names : t.scope.names ≡ s.scope.names

listed : {s t u : State} → Listed s t → Listed t u → Listed s u
listed p q = record { stored = stored-then p.stored q.stored; names = q.names ∙ p.names }

module _ (which : Bool) (numbered : ℕ → Option ScopeInfo → ScopeInfo → ScopeInfo) where
  number_listed : (b : Bool) (r i : ℕ) (x : ListEntry) (s : State) → Listed s (cond b (number_row which numbered r i x s) s)
  unfolding number_row
  number_listed true r i x s = record { stored = as_full refl refl refl refl; names = refl }
  number_listed false r i x s = record { stored = still.apart.stored; names = refl }

  numbers_listed : (k r i : ℕ) (s : State) → Listed s (number_rows which numbered k r i s)
  unfolding number_rows
  numbers_listed zero r i s = record { stored = still.apart.stored; names = refl }
  numbers_listed (suc k) r i s = listed (number_listed (is_of which numbered (list_entry_at s r)) r i (list_entry_at s r) s) (numbers_listed k (suc r) _ _)

pub open_listed : (f : Option FunctionInformation) (s : State) → Listed s (open_captures f s)
unfolding open_captures number_list
open_listed None s = record { stored = as_full refl refl refl refl; names = refl }
open_listed (Some v) s =
    let e = v.captured_vars in
    let t = with_captures (push_layer s.captures) s in
    let p = listed (numbers_listed false numbered_capture e.length e.first 0 t) (numbers_listed true numbered_heap e.length e.first 0 _) in
    record {
      stored = record {
        arguments = p.stored.arguments;
        captured = p.stored.captured;
        ten = p.stored.ten;
        shorter = record { at = p.stored.shorter.at };
      };
      names = p.names;
    }
