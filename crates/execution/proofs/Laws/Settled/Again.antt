-- What a second visit finds at a place of R7RS's walk: the names in scope are live, each with its entry; its own records have the first run's facts; and
-- the newest layer of the captures is the list of the innermost lambda.
use Rattle.std.specs.Prelude.{ℕ, suc, ◌+◌, ◌≤◌, ◌<◌, List, [], ◌∷◌, ◌++◌, Bool, true, false, cond, not, ◌&&◌, ◌≡◌, refl, length, get_or, set, eqb, ltb, Option, None, Some}
use Rattle.std.proofs.Common.{true≢false, ap, sym, subst, ◌∙◌, arith, get_or-set_same, get_or-set_other}
use Rattle.std.proofs.Math.Decide.{ℕ_discrete, dec_lt}
use Rattle.std.proofs.Math.ListN.{get_or-eq_default}
use Rattle.tree.specs.Tree.{Ident, Node}
use Rattle.tree.specs.Accepted.{All}
use Rattle.scope_map.specs.ScopeMap.{ScopeMap, Live, get_in}
use Rattle.semantic.specs.Information.{NONE}
use Rattle.semantic.specs.Rows.{Row, Blank, ListEntry, no_list_entry}
use Rattle.semantic.specs.declared.ScopeInfo.{ScopeInfo}
use Rattle.pass.specs.State.{Entry, Facts, Capture, Scope, State, no_entry, row_at, depth}
use Rattle.pass.specs.Read.{has_number}
use Rattle.pass.specs.Lists.{name_of}
use Rattle.pass.specs.Run.{list_entries_most}
use Rattle.pass_laws.specs.Laws.Rows.{key}
use Rattle.pass_laws.specs.Laws.Changes.{Steps, quiet}
use Rattle.pass_laws.specs.Laws.Moves.{Moves, by, moves_key, moves_lengths}
use Rattle.pass_laws.specs.Laws.Entries.{moves_entry}
use Rattle.pass_laws.specs.Laws.Leaves.{names, in_layer, Layered}
use Rattle.pass_laws.specs.Laws.Says.{used_inside, is_set_in}
use Rattle.pass_laws.specs.Laws.Finds.{lives_of, Around, Global, entry_in, all_map, all_zip, live_in, Of, Got, find-all, get-all, get_live, within_bottom, within_lives}
use Rattle.pass_laws.specs.Laws.Onward.{Parts}
use Rattle.pass_laws.specs.Laws.Idle.{Idle}
use Rattle.r7rs.specs.Binding.{Binder, Place, Use, find}
use Rattle.execution.specs.Acceptance.{has_name}
use Rattle.execution.proofs.Laws.Settled.Listed.{Taken, times_in}
use Rattle.execution.proofs.Laws.Settled.Kept.{count_from}
use Rattle.execution.proofs.Laws.Settled.Layer.{Lives, InLayer, Below}

-- The innermost lambda: its record, the rows of its list, its parameters, the names in scope around it, the uses by its end
pub record Frame : Type 0 where
  pub at : ℕ
  pub lo : ℕ
  pub hi : ℕ
  pub xs : List Ident
  pub sc : List Binder
  pub after : List Use
  pub refuses : ℕ → Bool  -- a read of the name is refused

-- U: all uses of the script. An inner lambda uses the name, and it is set.
abbrev pub shared : List Use → ℕ → Bool
shared U k = used_inside k U && is_set_in k U

-- The entry of a name in scope
pub record HeldAs (U : List Use) (e : Entry) (b : Binder) : Type 0 where
  pub depth : e.depth ≡ b.home.layer
  pub slot : e.stack_offset ≡ cond (shared U b.ident.at) b.place b.home.slot
  pub heap : shared U b.ident.at ≡ true → (e.captured ≡ true) × (e.mutated ≡ true)
  pub captured : e.captured ≡ true → used_inside b.ident.at U ≡ true
  pub mutated : e.mutated ≡ true → is_set_in b.ident.at U ≡ true

both_true : {a b : Bool} → a ≡ true → b ≡ true → a && b ≡ true
both_true p q = rw (p, q)

pub held_flag : {U : List Use} {e : Entry} {b : Binder} → HeldAs U e b → (e.captured && e.mutated) ≡ shared U b.ident.at
held_flag {U} {e} {b} h = go (shared U b.ident.at) refl e.captured e.mutated refl refl
  where
    go : (q : Bool) → shared U b.ident.at ≡ q → (c m : Bool) → e.captured ≡ c → e.mutated ≡ m → (c && m) ≡ q
    go true z c m p k = both_true (sym p ∙ (h.heap z).0) (sym k ∙ (h.heap z).1)
    go false z true true p k = absurd (true≢false (sym (both_true (h.captured p) (h.mutated k)) ∙ z))
    go false z true false p k = refl
    go false z false m p k = refl

pub record Stands (U : List Use) (own : ℕ → Type 0) (E : List Entry) (b : Binder) : Type 0 where
  pub held : HeldAs U (entry_in E b.ident.at) b
  pub apart : own b.ident.at → ⊥

-- an entry is put
pub set-held : {U : List Use} (E : List Entry) (i : ℕ) (e : Entry) (b : Binder) → 2 ≤ b.home.layer → HeldAs U (entry_in E b.ident.at) b
    → (b.ident.at ≡ i → HeldAs U e b)
    → HeldAs U (entry_in (set E i e) b.ident.at) b
set-held {U} E i e b two h g = go (ℕ_discrete b.ident.at i) (dec_lt b.ident.at (length E))
  where
    go : Dec (b.ident.at ≡ i) → Dec (b.ident.at < length E) → HeldAs U (entry_in (set E i e) b.ident.at) b
    go (no n) l = subst (λ (d : Entry). HeldAs U d b) (sym (get_or-set_other E i b.ident.at e no_entry n)) h
    go (yes n) (yes l) =
        subst (λ (d : Entry). HeldAs U d b) (sym (ap (λ (k : ℕ). get_or (set E i e) k no_entry) n ∙ get_or-set_same E i e no_entry (omega arith))) (g n)
    go (yes n) (no l) = absurd (omega (arith, h.depth, ap (λ (k : Entry). k.depth) (get_or-eq_default E no_entry {n = b.ident.at} (omega arith))))

-- The captures

-- what the newest layer has of the name x: nothing if no entry of the list C has it, else a capture of one that has
pub data CaughtOf (C : List ListEntry) (lo hi x : ℕ) : Option (Live Capture) → Type 0 where
  none_of : ((q : ℕ) → lo ≤ q → q < hi → ¬ (name_of (get_or C q no_list_entry) ≡ x)) → CaughtOf C lo hi x None
  one_of : {c : Live Capture} → lo ≤ c.value.row → c.value.row < hi → name_of (get_or C c.value.row no_list_entry) ≡ x
      → c.value.binder ≡ (get_or C c.value.row no_list_entry).binder → CaughtOf C lo hi x (Some c)

-- in no lambda nothing is taken
abbrev pub CaughtIn : List ListEntry → Option Frame → ℕ → Option (Live Capture) → Type 0
CaughtIn C None x o = o ≡ None
CaughtIn C (Some f) x o = CaughtOf C f.lo f.hi x o

-- the entries of the innermost lambda's list are as mutated as the first run left them
abbrev pub MutatedIn : List ListEntry → Option Frame → List ListEntry → Type 0
MutatedIn C None D = Unit {0}
MutatedIn C (Some f) D = (q : ℕ) → f.lo ≤ q → q < f.hi → (get_or D q no_list_entry).info.mutated ≡ (get_or C q no_list_entry).info.mutated

-- the offsets of an entry that is the capture of the name x
pub record OffsetsAt (f : Frame) (x : ℕ) (v : ScopeInfo) : Type 0 where
  pub refused : (has_number v.read_capture_offset && eqb v.capture_offset NONE) ≡ f.refuses x
  pub unread : eqb v.read_capture_offset NONE ≡ v.mutated

abbrev pub OffsetsIn : Option Frame → Lives → List ListEntry → Type 0
OffsetsIn None l D = Unit {0}
OffsetsIn (Some f) l D = (x : ℕ) (c : Live Capture) → get_in l x ≡ Some c → OffsetsAt f x (get_or D c.value.row no_list_entry).info

-- the newest layer is d, above the captures `old`
pub record Catch (C : List ListEntry) (fr : Option Frame) (d : ℕ) (old : Lives) (s : State) : Type 0 where
  pub top : Lives
  pub one : 1 ≤ d
  pub depth : s.captures.depth ≡ d
  pub live : s.captures.live ≡ top ++ old
  pub layer : InLayer d top
  pub below : Below d old
  pub caught : (x : ℕ) → CaughtIn C fr x (get_in top x)
  pub mutated : MutatedIn C fr s.facts.captured
  pub offsets : OffsetsIn fr top s.facts.captured

-- the same captures and the same lists
pub catch_same : {C : List ListEntry} {fr : Option Frame} {d : ℕ} {old : Lives} {s t : State} → t.captures ≡ s.captures → t.facts.captured ≡ s.facts.captured
    → Catch C fr d old s → Catch C fr d old t
catch_same {C} {fr} q e m =
    record {
      top = m.top;
      one = m.one;
      depth = ap (λ (k : ScopeMap Capture). k.depth) q ∙ m.depth;
      live = ap (λ (k : ScopeMap Capture). k.live) q ∙ m.live;
      layer = m.layer;
      below = m.below;
      caught = m.caught;
      mutated = subst (MutatedIn C fr) (sym e) m.mutated;
      offsets = subst (OffsetsIn fr m.top) (sym e) m.offsets;
    }

-- The innermost lambda of a place

pub record ListOf (C : List ListEntry) (f : Frame) : Type 0 where
  pub long : ℕ
  pub to : f.lo + long ≡ f.hi
  pub taken : (r : ℕ) → f.lo ≤ r → r < f.hi → Taken f.after f.xs f.sc (get_or C r no_list_entry)
  pub times : (x : ℕ) (b : Binder) → has_name x f.xs ≡ false → find f.sc x ≡ Some b → used_inside b.ident.at f.after ≡ true
      → count_from C x f.lo long ≡ times_in x f.sc

-- Refusal 12 at a mention of b by the name x, where sc is in scope: b is bound outside the second lambda around, is the only one of its name, is not set by
-- the end of the first and is set by the end of the second. G: the uses by the end of each lambda
abbrev pub is_twelve_by : (ℕ → List Use) → List Binder → ℕ → Binder → List ℕ → Bool
is_twelve_by G sc x b [] = false
is_twelve_by G sc x b (i ∷ []) = false
is_twelve_by G sc x b (i ∷ j ∷ is) =
    ltb (length b.around) (suc (length is)) && (eqb (times_in x sc) 1 && (not (is_set_in b.ident.at (G i)) && is_set_in b.ident.at (G j)))

pub record Framed (C : List ListEntry) (G : ℕ → List Use) (f : Frame) (p : Place) : Type 0 where
  pub rest : List ℕ
  pub around : p.around ≡ f.at ∷ rest
  pub outer : (x : ℕ) (b : Binder) → find p.scope x ≡ Some b → ltb (length b.around) (length p.around) ≡ true
      → (find f.sc x ≡ Some b) × (has_name x f.xs ≡ false)
  pub most : (x : ℕ) → times_in x f.sc ≤ times_in x p.scope
  pub doubled : (x : ℕ) (b c : Binder) → find p.scope x ≡ Some b → ltb (length b.around) (length p.around) ≡ false → find f.sc x ≡ Some c
      → 2 ≤ times_in x p.scope
  pub refuses : (x : ℕ) (b : Binder) → find p.scope x ≡ Some b → ltb (length b.around) (length p.around) ≡ true
      → All (λ k. used_inside b.ident.at (G k) ≡ true) p.around
      → f.refuses x ≡ is_twelve_by G p.scope x b p.around
  pub ends : G f.at ≡ f.after
  pub list : ListOf C f

abbrev pub FramedIn : List ListEntry → (ℕ → List Use) → Option Frame → Place → Type 0
FramedIn C G None p = p.around ≡ []
FramedIn C G (Some f) p = Framed C G f p

-- the fact of the lambda around, n
abbrev pub FunctionIn : List Row → (ℕ → Type 0) → Option Node → State → Type 0
FunctionIn T own None s = Unit {0}
FunctionIn T own (Some n) s = (key (row_at s n.at) ≡ key (get_or T n.at Blank)) × (own n.at → ⊥)

-- the tables and names of the first run and of the script
pub record Script : Type 0 where
  pub T : List Row
  pub C : List ListEntry
  pub A : List ListEntry
  pub U : List Use
  pub G : ℕ → List Use

-- The tables, where the records in `own` are left to visit: those have the first run's facts, T
pub record Tabled (T : List Row) (own : ℕ → Type 0) (bottom : List (Live Ident)) (s : State) : Type 0 where
  pub rows : (x : ℕ) → own x → x < length s.facts.rows
  pub keys : (x : ℕ) → own x → key (row_at s x) ≡ key (get_or T x Blank)
  pub entries : (x : ℕ) → own x → x < length s.scope.entries
  pub globals : All (Global own s.scope.entries) bottom
  pub long : length s.facts.captured ≡ list_entries_most

-- What a step leaves

pub tabled_but : {T : List Row} {own out left : ℕ → Type 0} {bottom : List (Live Ident)} {s t : State} → ((x : ℕ) → left x → own x) → ((x : ℕ) → left x → out x → ⊥)
    → All (λ (e : Live Ident). out e.value.at → ⊥) bottom → Tabled T own bottom s → Moves out s t → Tabled T left bottom t
tabled_but {bottom = bottom} kept apart spared u c =
    let lengths = moves_lengths c in
    record {
      rows = λ x o. omega (arith, lengths.rows, u.rows x (kept x o));
      keys = λ x o. moves_key c x (apart x o) ∙ u.keys x (kept x o);
      entries = λ x o. omega (arith, lengths.entries, u.entries x (kept x o));
      globals = all_map (λ e g.
          record {
            layer = g.0.layer;
            depth = ap (λ (k : Entry). k.depth) (moves_entry c e.value.at g.1).kept ∙ g.0.depth;
            apart = λ o. g.0.apart (kept e.value.at o);
          }) bottom (all_zip _ _ bottom u.globals spared);
      long = lengths.captured ∙ u.long;
    }

pub tabled : {T : List Row} {own out left : ℕ → Type 0} {bottom : List (Live Ident)} {s t : State} → Parts own out left → Tabled T own bottom s → Moves out s t → Tabled T left bottom t
tabled {bottom = bottom} parts u c =
    tabled_but parts.kept parts.apart (all_map (λ e g o. g.apart (parts.written e.value.at o)) bottom u.globals) u c

-- the lambda around stays
pub function_still : (T : List Row) {own out left : ℕ → Type 0} {s t : State} (o : Option Node) → Parts own out left → Moves out s t → FunctionIn T own o s → FunctionIn T left o t
function_still T None parts c q = tt
function_still T (Some n) parts c q = (moves_key c n.at (λ o. q.1 (parts.written n.at o)) ∙ q.0, λ o. q.1 (parts.kept n.at o))

module _ (S : Script) where
  -- own: the records left to visit; function: the lambda around
  pub record Again (own : ℕ → Type 0) (bottom : List (Live Ident)) (function : Option Node) (fr : Option Frame) (d : ℕ) (old : Lives) (p : Place)
      (s : State) : Type 0 where
    pub tables : Tabled S.T own bottom s
    pub arguments : s.facts.arguments ≡ S.A
    pub inside : FunctionIn S.T own function s
    pub captures : Catch S.C fr d old s
    pub one : 1 ≤ p.site.layer
    pub live : names s ≡ in_layer p.site.layer (lives_of p.scope bottom)
    pub around : All (Around p.site.layer p.around) p.scope
    pub stands : All (Stands S.U own s.scope.entries) p.scope

  module _ {own : ℕ → Type 0} {bottom : List (Live Ident)} {function : Option Node} {fr : Option Frame} {d : ℕ} {old : Lives} {p : Place} {s : State}
      (f : Again own bottom function fr d old p s) where
    pub again-deep : depth s ≡ p.site.layer
    again-deep = ap (λ (m : ScopeMap Ident). m.depth) f.live

    pub again_layered : Layered (names s)
    again_layered =
        let w = within_bottom p.site.layer f.one own s.scope.entries bottom f.tables.globals in
        let l : Layered (in_layer p.site.layer (lives_of p.scope bottom)) = record {
          one = f.one;
          within = within_lives p.site.layer f.one p.around
              p.scope f.around bottom w;
        } in
        subst Layered (sym f.live) l

    pub record SearchAgain (x : ℕ) : Type 0 where
      pub meant : Of (λ b. Around p.site.layer p.around b × Stands S.U own s.scope.entries b) (find p.scope x)
      pub global : Got (Global own s.scope.entries) (get_in bottom x)
      pub found : get_in (names s).live x ≡ live_in (find p.scope x) (get_in bottom x)

    pub search_again : (x : ℕ) → SearchAgain x
    search_again x =
        record {
          meant = find-all p.scope (all_zip _ _ p.scope f.around f.stands) x;
          global = get-all bottom f.tables.globals x;
          found = ap (λ (m : ScopeMap Ident). get_in m.live x) f.live ∙ get_live p.scope bottom x;
        }

    module _ {out left : ℕ → Type 0} {t : State} (parts : Parts own out left) where
      -- what a step leaves
      pub onward_again : Moves out s t → names t ≡ names s → t.facts.arguments ≡ s.facts.arguments → Catch S.C fr d old t
          → All (Stands S.U left t.scope.entries) p.scope → Again left bottom function fr d old p t
      onward_again c n a m h =
          record {
            tables = tabled parts f.tables c;
            arguments = a ∙ f.arguments;
            inside = function_still S.T function parts c f.inside;
            captures = m;
            one = f.one;
            live = n ∙ f.live;
            around = f.around;
            stands = h;
          }

      -- a quiet step with the same lists
      pub calmly_again : ((free : Type 0) → Steps free out s t) → Idle s t → Again left bottom function fr d old p t
      calmly_again c i =
          let q = quiet (c ⊥) in
          onward_again (by (c (Unit {0}))) (ap (λ (k : Scope). k.names) q.scope) (ap (λ (g : Facts). g.arguments) i)
          (catch_same q.captures (ap (λ (g : Facts). g.captured) i) f.captures)
          (subst (λ (k : Scope). All (Stands S.U left k.entries) p.scope) (sym q.scope)
          (all_map (λ b k. record { held = k.held; apart = λ o. k.apart (parts.kept b.ident.at o) }) p.scope f.stands))
