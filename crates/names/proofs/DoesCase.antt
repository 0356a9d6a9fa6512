-- The rule that decided is the pass's: its binder is known, and what was done by it is the read. No place of the code stands here.
use Rattle.std.specs.Prelude.{Option, None, Some}
use Prim.Native.Nat.{ℕ}
use mathlib.Core.List.{List}
use mathlib.Core.Bool.{Bool, true, false, cond}
use mathlib.Core.Path.{◌≡◌, refl, ap, sym, ◌∙◌, subst}
use lib.Dec.{eqb}
use Rattle.tree.specs.Record.{nth}
use Rattle.tree.specs.Tree.{Ident}
use Rattle.scope_map.specs.ScopeMap.{Live, get}
use Rattle.semantic.specs.Rows.{Blank, put_row}
use Rattle.semantic.specs.Amend.{used_or}
use Rattle.semantic.specs.Leaves.{Amends}
use Rattle.semantic.specs.declared.SemanticInformation.{SemanticInformation}
use Rattle.semantic.specs.declared.Span.{Span}
use Rattle.pass.specs.State.{State, Capture, entry_at, newest, depth}
use Rattle.pass.specs.Read.{Rule, no_entry, depth_one, current_layer, taken_capture, home_slot, capture_rule, entry_rule, rule_of, read, is_prelude}
use Rattle.work.specs.Known.{Known}
use Rattle.work.specs.Coded.{record_in}
use Rattle.work.specs.Laws.Works.{depth_is}
use Rattle.work.specs.Passes.{with_second}
use Rattle.work.specs.Laws.Scope.{newest-known}
use Rattle.work.specs.Tied.{raw, Here}
use Rattle.work.specs.declared.Pass.{Pass}
use Rattle.work.specs.declared.SecondRefusal.{SecondRefusal}
use Rattle.names.specs.Rules.{Stands, Same, no_entry_lem, depth-one, same_current_layer, taken-capture, same_home_slot}
use Rattle.names.specs.Facts.{span_of, FreeFact}
use Rattle.names.specs.Contract.{Does, Decides}
use Rattle.names.specs.Steps.{Bound, ToldPrelude, ToldDepth, ReadsBy, TakenBound, ReadsTaken}
use Rattle.names.specs.declared.read.Rule.{Rule as Decision}
use Rattle.names.specs.declared.read.Rule.TheVariants as decision
use Rattle.names.specs.Laws.Idents.{known_name}
use Rattle.names.proofs.ReadCase.{reads_free}

-- The binder of a rule is the name's newest

binder_of : Rule → Option Ident
binder_of no_entry = None
binder_of (depth_one y) = Some y
binder_of (current_layer y) = Some y
binder_of (taken_capture y c) = Some y
binder_of (home_slot y) = Some y

rule_binder : (s : State) (x : ℕ) → newest s x ≡ binder_of (rule_of s x)
unfolding rule_of binder_of
rule_binder s x = go (newest s x)
  where
    last : (y : Ident) (o : Option (Live Capture)) → Some y ≡ binder_of (capture_rule y o)
    last y None = refl
    last y (Some c) = refl

    local : (y : Ident) (b : Bool) → Some y ≡ binder_of (cond b (current_layer y) (capture_rule y (get s.captures x)))
    local y true = refl
    local y false = last y (get s.captures x)

    global : (y : Ident) (a b : Bool) → Some y ≡ binder_of (cond a (depth_one y) (cond b (current_layer y) (capture_rule y (get s.captures x))))
    global y true b = refl
    global y false b = local y b

    go : (o : Option Ident) → o ≡ binder_of (entry_rule s x o)
    go None = refl
    go (Some y) = global y (eqb (entry_at s y.at).depth 1) (eqb (entry_at s y.at).depth (depth s))

-- A rule with the binder at b, and a capture's place

record Ruled (rule : Ident → Rule) (q : Rule) (b : ℕ) : Type 0 where
  y : Ident
  is : q ≡ rule y
  at : y.at ≡ b

record RuledTaken (s : State) (x : ℕ) (q : Rule) (b place row : ℕ) : Type 0 where
  y : Ident
  c : Capture
  is : q ≡ taken_capture y c
  at : y.at ≡ b
  stands : Stands s x place row c

module _ {s : State} {x : ℕ} where
  ruled_none : {q : Rule} → Same s x decision.NoEntry q → q ≡ no_entry
  ruled_none no_entry_lem = refl

  ruled_global : {q : Rule} {b : ℕ} → Same s x (decision.DepthOne b) q → Ruled depth_one q b
  ruled_global (depth-one e) = record { y = _; is = refl; at = e }

  ruled_local : {q : Rule} {b : ℕ} → Same s x (decision.CurrentLayer b) q → Ruled current_layer q b
  ruled_local (same_current_layer e) = record { y = _; is = refl; at = e }

  ruled_home : {q : Rule} {b : ℕ} → Same s x (decision.HomeSlot b) q → Ruled home_slot q b
  ruled_home (same_home_slot e) = record { y = _; is = refl; at = e }

  ruled_taken : {q : Rule} {b place row : ℕ} → Same s x (decision.TakenCapture b place row) q → RuledTaken s x q b place row
  ruled_taken (taken-capture e t) = record { y = _; c = _; is = refl; at = e; stands = t }

-- The read by it

abbrev Binds : (Ident → Rule) → Type 0
Binds rule = (y : Ident) → binder_of (rule y) ≡ Some y

module _ {rs : List ℕ} {at : ℕ} {p : Pass} {F C w : List ℕ} {name : ℕ} (n : name ≡ (nth rs at).name) where
  named_here : {A : List ℕ} {s : State} {x : Ident} → Here rs at (raw p F C A w) s x → name ≡ x.name
  named_here h = n ∙ known_name h.known h.place

  told : {A : List ℕ} {s : State} {x : Ident} {r t : Decision} → Here rs at (raw p F C A w) s x → Decides p w name r → r ≡ t
      → Same s x.name t (rule_of s x.name)
  told {s = s} {t = t} h d e =
      let k = subst (λ (r : Decision). Same s name r (rule_of s name)) e (d.is rs s h.tied.works h.good) in
      subst (λ (x : ℕ). Same s x t (rule_of s x)) (named_here h) k

  known_binder : {A : List ℕ} {s : State} {x y : Ident} → Here rs at (raw p F C A w) s x → Some y ≡ binder_of (rule_of s x.name) → Known rs y
  known_binder {s = s} {x} {y} h e =
      let q : Some y ≡ newest s x.name = e ∙ sym (rule_binder s x.name) in
      let z = newest-known rs s x.name y.at h.good.sound.binders (ap record_in q) in
      let i : z.x ≡ y = cc z.is in
      subst (Known rs) i z.known

  module _ (rule : Ident → Rule) (binds : Binds rule) {b : ℕ} where
    known_ruled : {A : List ℕ} {s : State} {x : Ident} → Here rs at (raw p F C A w) s x → (z : Ruled rule (rule_of s x.name) b) → Known rs z.y
    known_ruled h z = known_binder h (sym (ap binder_of z.is ∙ binds z.y))

    bound : {A : List ℕ} {s : State} {x : Ident} → Here rs at (raw p F C A w) s x → Ruled rule (rule_of s x.name) b → Bound rs at b F w
    bound {A} {s} {x} h z = record { p = p; captured = C; arguments = A; s = s; x = x; y = z.y; here = h; known = known_ruled h z; bound = z.at }

    does : {F' w' : List ℕ} {Q : List ℕ → Ident → State → Type 0} (classes : List ℕ) → ReadsBy rule Q rs at b F w F' w'
        → ((A : List ℕ) (s : State) (x : Ident) → Here rs at (raw p F C A w) s x → Ruled rule (rule_of s x.name) b × Q classes x s)
        → Does rs at p F C w (read classes) p F' w'
    unfolding read
    does classes k f = record {
      is = λ A s x h. let z = f A s x h in rw z.0.is (k.is classes p C A s x z.0.y h (known_ruled h z.0) z.0.at z.1);
    }

  module _ {r : Decision} (d : Decides p w name r) where
    pub bound_global : {A : List ℕ} {s : State} {x : Ident} {b : ℕ} → Here rs at (raw p F C A w) s x → r ≡ decision.DepthOne b → Bound rs at b F w
    unfolding binder_of
    bound_global h e = bound depth_one (λ y. refl) h (ruled_global (told h d e))

    pub bound_local : {A : List ℕ} {s : State} {x : Ident} {b : ℕ} → Here rs at (raw p F C A w) s x → r ≡ decision.CurrentLayer b → Bound rs at b F w
    unfolding binder_of
    bound_local h e = bound current_layer (λ y. refl) h (ruled_local (told h d e))

    pub bound-home : {A : List ℕ} {s : State} {x : Ident} {b : ℕ} → Here rs at (raw p F C A w) s x → r ≡ decision.HomeSlot b → Bound rs at b F w
    unfolding binder_of
    bound-home h e = bound home_slot (λ y. refl) h (ruled_home (told h d e))

    pub bound-taken : {A : List ℕ} {s : State} {x : Ident} {b place row : ℕ} → Here rs at (raw p F C A w) s x → r ≡ decision.TakenCapture b place row
        → TakenBound rs at b place row p F C w
    unfolding binder_of
    bound-taken {A} {s} {x} h e =
        let z = ruled_taken (told h d e) in
        let ky = known_binder h (sym (ap binder_of z.is)) in
        record { arguments = A; s = s; x = x; y = z.y; c = z.c; here = h; known = ky; bound = z.at; stands = z.stands }

    module _ {F' w' : List ℕ} (classes : List ℕ) where
      pub does_global : {b : ℕ} {prelude : Bool} → r ≡ decision.DepthOne b → prelude ≡ is_prelude classes name
          → ReadsBy depth_one (ToldPrelude prelude) rs at b F w F' w' → Does rs at p F C w (read classes) p F' w'
      unfolding binder_of
      does_global e q k =
          does depth_one (λ y. refl) classes k (λ A s x h. (ruled_global (told h d e), q ∙ ap (λ (x : ℕ). is_prelude classes x) (named_here h)))

      pub does_local : {b m : ℕ} → r ≡ decision.CurrentLayer b → m ≡ p.scope.depth
          → ReadsBy current_layer (ToldDepth m) rs at b F w F' w' → Does rs at p F C w (read classes) p F' w'
      unfolding binder_of
      does_local e q k = does current_layer (λ y. refl) classes k (λ A s x h. (ruled_local (told h d e), q ∙ depth_is h.tied.works))

      pub does_home : {b m : ℕ} → r ≡ decision.HomeSlot b → m ≡ p.scope.depth
          → ReadsBy home_slot (ToldDepth m) rs at b F w F' w' → Does rs at p F C w (read classes) p F' w'
      unfolding binder_of
      does_home e q k = does home_slot (λ y. refl) classes k (λ A s x h. (ruled_home (told h d e), q ∙ depth_is h.tied.works))

      pub does_taken : {b place row : ℕ} {u : Option SecondRefusal} → r ≡ decision.TakenCapture b place row → ReadsTaken rs at b place row p F C w u F' w'
          → Does rs at p F C w (read classes) (with_second u p) F' w'
      unfolding read binder_of
      does_taken e k = record {
        is = λ A s x h.
            let z = ruled_taken (told h d e) in
            rw z.is (k.is classes A s x z.y z.c h (known_binder h (sym (ap binder_of z.is))) z.at z.stands);
      }

    pub does_free : {m : ℕ} {F' : List ℕ} {q : Span} {prelude : Bool} {i : SemanticInformation} (classes : List ℕ) → r ≡ decision.NoEntry
        → q ≡ span_of (nth rs at) → prelude ≡ is_prelude classes name → m ≡ p.scope.depth → FreeFact prelude m q i
        → Amends put_row Blank (used_or i) F at F' → Does rs at p F C w (read classes) p F' w
    unfolding read
    does_free classes e g q u k a = record {
      is = λ A s x h. rw (ruled_none (told h d e))
          (reads_free classes h g (q ∙ ap (λ (x : ℕ). is_prelude classes x) (named_here h)) (u ∙ depth_is h.tied.works) k a);
    }
