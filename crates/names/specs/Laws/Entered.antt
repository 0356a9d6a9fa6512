-- What a name that enters leaves as it was, so that the pass is what it was, but for what the name changed.
use Rattle.std.specs.Prelude.{ℕ, List, Bool, true, false, ◌&&◌, ◌≡◌, refl, length, ltb, Option}
use Rattle.std.proofs.Common.{ap, sym, ◌∙◌}
use Rattle.tree.specs.Tree.{Ident}
use Rattle.scope_map.specs.ScopeMap.{ScopeMap, define, has_at_top}
use Rattle.scope_map.specs.Map.{map_values}
use Rattle.scope_map.specs.Held.{Held}
use Rattle.scope_map.specs.declared.ScopeMap.{ScopeMap as Map}
use Rattle.pass.specs.State.{State, Capture, Entry, with_names, put_entry, depth}
use Rattle.pass.specs.Read.{note_live, enter}
use Rattle.work.specs.Works.{row_of, Works}
use Rattle.work.specs.Laws.Works.{depth_is, context_is, captured_top_lem, arguments_top_lem, nine_is, ten_is, second_is}
use Rattle.work.specs.Laws.Kept.{works_as}
use Rattle.work.specs.declared.Pass.{Pass}
use Rattle.names.specs.Contract.{with_name, name_in}

pub record Aside : Type 0 where
  pub depth : ℕ
  pub captures : ScopeMap Capture
  pub context : ℕ
  pub captured_top : ℕ
  pub arguments_top : ℕ
  pub ten : Option ℕ

abbrev pub aside_of : State → Aside
aside_of s = record {
  depth = s.scope.names.depth;
  captures = s.captures;
  context = s.context;
  captured_top = s.facts.captured_top;
  arguments_top = s.facts.arguments_top;
  ten = s.noted.ten;
}

live_aside : (b : Bool) (x : Ident) (s : State) → aside_of (with_names (define x.name x s.scope.names) (note_live b x.at s)) ≡ aside_of s
live_aside true x s = refl
live_aside false x s = refl

live_second : (b : Bool) (i : ℕ) (s : State) → (note_live b i s).noted.second ≡ s.noted.second
live_second true i s = refl
live_second false i s = refl

module _ (x : Ident) (e : Entry) (s : State) where
  pub enter_aside : aside_of (enter x e s) ≡ aside_of s
  unfolding enter put_entry
  enter_aside = live_aside (ltb 1 (depth s) && has_at_top s.scope.names x.name) x s

  pub enter_second : (enter x e s).noted.second ≡ s.noted.second
  unfolding enter put_entry
  enter_second = live_second (ltb 1 (depth s) && has_at_top s.scope.names x.name) x.at s

pub map_is : {m k : Map} → m.depth ≡ k.depth → m.length ≡ k.length → m ≡ k
map_is {m} {k} d l = let z : record { depth = m.depth; length = m.length } ≡ k = rw (d, l) in z

-- one struct alone holds a map
pub held_same : {m k : Map} {t u : List ℕ} {x y : ScopeMap ℕ} → Held m t x → Held k u y → x ≡ y → m ≡ k
held_same a b e =
    map_is (a.depth ∙ ap (λ (x : ScopeMap ℕ). x.depth) e ∙ sym b.depth) (a.many ∙ ap (λ (x : ScopeMap ℕ). length x.live) e ∙ sym b.many)

-- the pass from before with what the name changed
pub works_entered : {p q : Pass} {w w' : List ℕ} {s t : State} → Works p w s → Works q w' t → aside_of t ≡ aside_of s → t.noted.second ≡ s.noted.second
    → Works (with_name (name_in q) p) w' t
works_entered {t = t} a b e second =
    let depth = depth_is a ∙ ap (λ (k : Aside). k.depth) (sym e) ∙ sym (depth_is b) in
    let captures = held_same a.captures b.captures (ap (λ (k : Aside). map_values row_of k.captures) (sym e)) in
    let ten = ten_is a ∙ ap (λ (k : Aside). k.ten) (sym e) in
    let context = context_is a ∙ ap (λ (k : Aside). k.context) (sym e) in
    let captured = captured_top_lem a ∙ ap (λ (k : Aside). k.captured_top) (sym e) in
    let arguments = arguments_top_lem a ∙ ap (λ (k : Aside). k.arguments_top) (sym e) in
    works_as b _ t (map_is depth refl) captures refl refl refl (rw (context, captured, arguments, nine_is b, ten, second_is a ∙ sym second))
