-- A relation between states that the small steps preserve: the steps made of them preserve it too.
use Rattle.std.specs.Prelude.{ℕ, suc, Bool, cond, ◌&&◌, eqb, Option, None, Some}
use mathlib.Core.List.{List, [], ◌∷◌}
use Rattle.std.proofs.Math.Bool.{true, false}
use Rattle.std.proofs.Math.Dec.{ltb}
use Rattle.tree.specs.Tree.{Ident, Node, Tree, Trees, nil, cons}
use Rattle.tree.specs.Core.{core, cores}
use Rattle.scope_map.specs.ScopeMap.{ScopeMap, Live, has_at_top}
use Rattle.semantic.specs.Amend.{used_or}
use Rattle.semantic.specs.Information.{NONE}
use Rattle.semantic.specs.Rows.{Variable, CallSite, Let, ListEntry}
use Rattle.semantic.specs.declared.CallSiteInformation.{CallSiteInformation}
use Rattle.semantic.specs.declared.FunctionInformation.{FunctionInformation}
use Rattle.semantic.specs.declared.IdentifierStatus.{IdentifierStatus}
use Rattle.semantic.specs.declared.IdentifierStatus.TheVariants.{Local}
use Rattle.semantic.specs.declared.LetInformation.{LetInformation}
use Rattle.semantic.specs.declared.SemanticInformation.{SemanticInformation}
use Rattle.pass.specs.State.{Entry, State, with_names, with_context, info_at, row_at, insert, amend, entry_at, put_entry, newest, depth, note_nine, note_second}
use Rattle.pass.specs.Read.{note_live, enter, enter_define, shadow, enter_top_level_value, Rule, no_entry, depth_one, current_layer, taken_capture, home_slot, rule_of, use_capture, has_number, read_by, read, mutate_at, mutate}
use Rattle.pass.specs.Lists.{store_arguments}
use Rattle.pass.specs.Lambda.{is_heap, note_heap, enter_name, enter_names, mark_last, open_scope, enter_parameters, mark_lasts, close_scope, end_parameters, open_layer, close_layer, at_bottom, open_let, leave_names, entered, close_let}
use Rattle.pass.specs.Visit.{Flags, mark_arguments, is_self, mark_if_tail, close_call, clear_context, open_define, close_define, enter_child, enter_children}
use Rattle.pass_laws.specs.Laws.Cases.{by_let, by_child, by_argument, by_head}

-- Rows and entries are written, and the context is set; where `reads` holds, names are read; where `enters` holds, names enter and leave.
pub record Preserves (reads enters : Type 0) (R : State → State → Type 0) : Type 0 where
  pub same : (s : State) → R s s
  pub join : {s t u : State} → R s t → R t u → R s u
  pub mark : (f : SemanticInformation → SemanticInformation) (i : ℕ) (s : State) → R s (amend f i s)
  pub fact : (i : ℕ) (v : SemanticInformation) (s : State) → R s (insert i (Variable v) s)
  pub site : (i : ℕ) (v : CallSiteInformation) (s : State) → R s (insert i (CallSite v) s)
  pub entry : (i : ℕ) (e : Entry) (s : State) → R s (put_entry i e s)
  pub context : (c : ℕ) (s : State) → R s (with_context c s)
  pub used : reads → (i : ℕ) (v : SemanticInformation) (s : State) → R s (insert i (used_or v (row_at s i)) s)
  pub capture : reads → (x : ℕ) (s : State) → R s (use_capture x s)
  pub second : reads → (n i : ℕ) (s : State) → R s (note_second n i s)
  pub names : enters → (m : ScopeMap Ident) (s : State) → R s (with_names m s)
  pub nine : enters → (i : ℕ) (s : State) → R s (note_nine i s)

module _ {reads enters : Type 0} {R : State → State → Type 0} (K : Preserves reads enters R) where
  -- by a test
  either : {s t u : State} (b : Bool) → R s t → R s u → R s (cond b t u)
  either true p q = p
  either false p q = q

  -- Marks

  pub last_preserves : (o : Option Ident) (s : State) → R s (mark_last o s)
  last_preserves None s = K.same s
  last_preserves (Some x) s = K.mark _ x.at s

  pub lasts_preserves : (l : List (Live Ident)) (s : State) → R s (mark_lasts l s)
  unfolding mark_lasts
  lasts_preserves [] s = K.same s
  lasts_preserves (e ∷ l) s = K.join (last_preserves (entry_at s e.value.at).last_used s) (lasts_preserves l _)

  pub ended_preserves : (xs : List Ident) (s : State) → R s (end_parameters xs s)
  unfolding end_parameters
  ended_preserves [] s = K.same s
  ended_preserves (x ∷ xs) s = K.join (K.mark _ x.at s) (ended_preserves xs _)

  pub shadow_preserves : (classes : List ℕ) (o : Option Ident) (s : State) → R s (shadow classes o s)
  shadow_preserves classes None s = K.same s
  shadow_preserves classes (Some b) s = K.mark _ b.at s

  -- A call, and a set!

  arguments_preserves : (ts : Trees) (s : State) → R s (mark_arguments ts s)
  unfolding mark_arguments
  arguments_preserves nil s = K.same s
  arguments_preserves (cons t ts) s = K.join (by_argument R K.same (λ x s. last_preserves (Some x) s) t s) (arguments_preserves ts _)

  tail_preserves : (b : Bool) (ts : Trees) (s : State) → R s (mark_if_tail b ts s)
  tail_preserves true ts s = arguments_preserves ts s
  tail_preserves false ts s = K.same s

  pub call_preserves : (n : Node) (h : Tree) (es : Trees) (f : Flags) (s : State) → R s (close_call n h es f s)
  unfolding close_call
  call_preserves n h es f s =
      K.join (tail_preserves (f.tail && ltb 1 (depth s)) (cores es) s)
      (by_head (R _) (core h) n _ f.counter _ (K.same _) (λ e c p. K.site n.at _ _))

  pub clear_preserves : (x : Ident) (s : State) → R s (clear_context x s)
  unfolding clear_context
  clear_preserves x s = either (is_self s x) (K.context NONE s) (K.same s)

  pub set_preserves : (o : Option Ident) (s : State) → R s (mutate_at o s)
  set_preserves None s = K.same s
  set_preserves (Some b) s = K.join (K.entry b.at _ s) (K.mark _ b.at _)

  pub mutate_preserves : (x : ℕ) (s : State) → R s (mutate x s)
  unfolding mutate
  mutate_preserves x s = set_preserves (newest s x) s

-- A name is read
module _ {enters : Type 0} {R : State → State → Type 0} (K : Preserves (Unit {0}) enters R) where
  found : (i : ℕ) (e : Entry) (j : ℕ) (f : SemanticInformation → SemanticInformation) (x : Ident) (v : SemanticInformation) (s : State)
      → R s (insert x.at (Variable v) (amend f j (put_entry i e s)))
  found i e j f x v s = K.join (K.entry i e s) (K.join (K.mark f j _) (K.fact x.at v _))

  pub by_preserves : (classes : List ℕ) (r : Rule) (x : Ident) (s : State) → R s (read_by classes r x s)
  by_preserves classes no_entry x s = K.used tt x.at _ s
  by_preserves classes (depth_one b) x s = found b.at _ b.at _ x _ s
  by_preserves classes (current_layer b) x s = found b.at _ b.at _ x _ s
  by_preserves classes (taken_capture b c) x s =
      let v = info_at s c.row in
      K.join (K.join (K.capture tt x.name s) (found b.at _ c.binder.at _ x _ _))
      (either K (has_number v.read_capture_offset && eqb v.capture_offset NONE) (K.second tt 12 x.at _) (K.same _))
  by_preserves classes (home_slot b) x s = found b.at _ b.at _ x _ s

  pub read_preserves : (classes : List ℕ) (x : Ident) (s : State) → R s (read classes x s)
  unfolding read
  read_preserves classes x s = by_preserves classes (rule_of s x.name) x s

-- Names enter and leave
module _ {reads : Type 0} {R : State → State → Type 0} (K : Preserves reads (Unit {0}) R) where
  live_preserves : (b : Bool) (i : ℕ) (s : State) → R s (note_live b i s)
  live_preserves true i s = K.nine tt i s
  live_preserves false i s = K.same s

  pub enter_preserves : (x : Ident) (e : Entry) (s : State) → R s (enter x e s)
  unfolding enter
  enter_preserves x e s =
      K.join (live_preserves (ltb 1 (depth s) && has_at_top s.scope.names x.name) x.at s) (K.join (K.names tt _ _) (K.entry x.at e _))

  pub open_layer_preserves : (b : Bool) (s : State) → R s (open_layer b s)
  unfolding open_layer open_scope
  open_layer_preserves true s = K.names tt _ s
  open_layer_preserves false s = K.same s

  pub close_layer_preserves : (b : Bool) (s : State) → R s (close_layer b s)
  unfolding close_layer close_scope
  close_layer_preserves true s = K.names tt _ s
  close_layer_preserves false s = K.same s

  pub leaving_preserves : (xs : List Ident) (s : State) → R s (leave_names xs s)
  unfolding leave_names
  leaving_preserves [] s = K.same s
  leaving_preserves (x ∷ xs) s = K.join (K.join (K.names tt _ s) (last_preserves K (entry_at s x.at).last_used _)) (leaving_preserves xs _)

  -- a let whose list and fact are kept
  pub close_let_preserves : ((l : List ListEntry) (s : State) → R s (store_arguments l s)) → ((i : ℕ) (v : LetInformation) (s : State) → R s (insert i (Let v) s))
      → (b : Bool) (n : Node) (xs : List Ident) (height : ℕ) (function : Option Node) (s : State) → R s (close_let b n xs height function s)
  unfolding close_let
  close_let_preserves stored made b n xs height function s =
      let l = entered xs s in
      let t = leave_names xs s in
      K.join (K.join (leaving_preserves xs s)
      (by_let (R t) (row_at s n.at) n l height function t (λ e. K.join (stored l t) (made n.at _ _)) (K.same t))) (close_layer_preserves b _)

  -- a define

  module _ (classes : List ℕ) where
    pub define_preserves : (k : IdentifierStatus) (a : ℕ) (x : Ident) (b : Tree) (s : State) → R s (enter_define classes k a x b s)
    unfolding enter_define
    define_preserves k a x b s = K.join (enter_preserves x _ s) (K.fact x.at _ _)

    pub value_preserves : (x : Ident) (b : Tree) (s : State) → R s (enter_top_level_value classes x b s)
    unfolding enter_top_level_value
    value_preserves x b s = K.join (shadow_preserves K classes (newest s x.name) s) (define_preserves _ _ x b _)

    child_preserves : (kind : IdentifierStatus) (t : Tree) (s : State) → R s (enter_child classes kind t s)
    child_preserves kind t s = by_child classes (λ u g. R s (g s)) kind (λ u. K.same s) (λ n x b e. define_preserves kind NONE x b s) t

    pub children_preserves : (kind : IdentifierStatus) (ts : Trees) (s : State) → R s (enter_children classes kind ts s)
    unfolding enter_children
    children_preserves kind nil s = K.same s
    children_preserves kind (cons t ts) s = K.join (child_preserves kind t s) (children_preserves kind ts _)

    pub before_preserves : (direct lambda : Bool) (x : Ident) (b : Tree) (s : State) → R s (open_define classes direct lambda x b s)
    before_preserves true true x b s = K.context _ s
    before_preserves true false x b s = K.context _ s
    before_preserves false true x b s = K.join (define_preserves Local NONE x b s) (K.context _ _)
    before_preserves false false x b s = K.same s

    pub after_preserves : (direct lambda : Bool) (c : ℕ) (x : Ident) (b : Tree) (s : State) → R s (close_define classes direct lambda c x b s)
    after_preserves true true c x b s = K.context _ s
    after_preserves true false c x b s = K.join (define_preserves Local NONE x b s) (K.context _ _)
    after_preserves false true c x b s = K.context _ s
    after_preserves false false c x b s = define_preserves Local NONE x b s

-- Parameters and let names
module _ {R : State → State → Type 0} (K : Preserves (Unit {0}) (Unit {0}) R) where
  heap_preserves : (o : Option ℕ) (x : Ident) (s : State) → R s (note_heap o x s)
  heap_preserves None x s = K.second tt 11 x.at s
  heap_preserves (Some n) x s = K.same s

  module _ (kind : IdentifierStatus) (base : ℕ) (heaps : Option ℕ) (before : List ListEntry) where
    pub name_preserves : (b : Bool) (x : Ident) (j h : ℕ) (s : State) → R s (enter_name kind base heaps before b x j h s)
    unfolding enter_name
    name_preserves true x j h s = K.join (heap_preserves heaps x s) (K.join (enter_preserves K x _ _) (K.fact x.at _ _))
    name_preserves false x j h s = K.join (enter_preserves K x _ s) (K.fact x.at _ _)

    pub names_preserves : (xs : List Ident) (j h : ℕ) (s : State) → R s (enter_names kind base heaps before xs j h s)
    unfolding enter_names
    names_preserves [] j h s = K.same s
    names_preserves (x ∷ xs) j h s = K.join (name_preserves (is_heap before j) x j h s) (names_preserves xs (suc j) _ _)

  pub parameters_preserves : (f : Option FunctionInformation) (xs : List Ident) (s : State) → R s (enter_parameters f xs s)
  unfolding enter_parameters
  parameters_preserves None xs s = names_preserves _ _ _ _ xs 0 0 s
  parameters_preserves (Some v) xs s = names_preserves _ _ _ _ xs 0 0 s

  pub open_let_preserves : (n : Node) (xs : List Ident) (height : ℕ) (function : Option Node) (s : State) → R s (open_let n xs height function s)
  unfolding open_let
  open_let_preserves n xs height function s = K.join (open_layer_preserves K (at_bottom s) s) (names_preserves _ height _ _ xs 0 0 _)
