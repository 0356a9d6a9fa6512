-- Where a stretch of the walk stands in the whole walk E of a script; and the events of a lambda: those before it, those inside, those after its end.
use Rattle.std.specs.Prelude.{ℕ, ◌≤◌, ◌<◌, Bool, true, false, cond, ◌||◌, ◌≡◌, eqb, Option}
use mathlib.Core.List.{List, [], ◌∷◌, ◌++◌, append_assoc, append-nil}
use Rattle.std.proofs.Math.Path.{refl, ap}
use Rattle.std.proofs.Common.{sym, ◌∙◌, arith, eqb-true, eq-eqb, ne_eqb}
use Rattle.tree.specs.Tree.{Ident}
use Rattle.tree.specs.Check.{member}
use Rattle.tree.specs.Accepted.{All}
use Rattle.r7rs.specs.Binding.{Binder, Mention, Event, enters, mentions, ends, meant, is_inner, Use, use_of}
use Rattle.pass_laws.specs.Laws.All.{all-++, all_map}
use Rattle.pass_laws.specs.Laws.Layers.{and_right}
use Rattle.pass_laws.specs.Laws.Keeps.{Off}
use Rattle.pass_laws.specs.Laws.Says.{uses_in, uses_in_lem, any_use, any_append, used_inside, is_set_in}
use Rattle.pass_laws.specs.Laws.Finds.{Of, of_none, of_some}
use Rattle.execution.proofs.Laws.Settled.Walked.{Walked}

-- The events before a lambda's end
unfoldable pub until_end : ℕ → List Event → List Event
until_end k [] = []
until_end k (enters b sc ∷ l) = enters b sc ∷ until_end k l
until_end k (mentions m ∷ l) = mentions m ∷ until_end k l
until_end k (ends i xs sc ∷ l) = cond (eqb i k) [] (ends i xs sc ∷ until_end k l)

abbrev pub AnyRecord : ℕ → Type 0
AnyRecord x = Unit {0}

-- outside the lambda k; inside it

abbrev pub Lacks : ℕ → Event → Type 0
Lacks k = Walked AnyRecord (λ l. member k l ≡ false) (λ j. ¬ (j ≡ k))

abbrev pub Has : ℕ → Event → Type 0
Has k = Walked AnyRecord (λ l. member k l ≡ true) (λ j. ¬ (j ≡ k))

pub record Zone (E : List Event) (k : ℕ) : Type 0 where
  pub before : List Event
  pub inside : List Event
  pub after : List Event
  pub xs : List Ident
  pub sc : List Binder
  pub is : E ≡ before ++ (inside ++ (ends k xs sc ∷ after))
  pub lacks_before : All (Lacks k) before
  pub has : All (Has k) inside
  pub lacks_after : All (Lacks k) after

module _ (k : ℕ) (Q : List ℕ → Type 0) where
  until_past : (l r : List Event) → All (Walked AnyRecord Q (λ j. ¬ (j ≡ k))) l → until_end k (l ++ r) ≡ l ++ until_end k r
  unfolding until_end
  until_past [] r a = refl
  until_past (enters b sc ∷ l) r a = ap (λ (z : List Event). enters b sc ∷ z) (until_past l r a.1)
  until_past (mentions m ∷ l) r a = ap (λ (z : List Event). mentions m ∷ z) (until_past l r a.1)
  until_past (ends i xs sc ∷ l) r a = rw (ne_eqb i k a.0) (ap (λ (z : List Event). ends i xs sc ∷ z) (until_past l r a.1))

pub zone_until : {E : List Event} (k : ℕ) (z : Zone E k) → until_end k E ≡ z.before ++ z.inside
unfolding until_end
zone_until k z =
    ap (until_end k) z.is
    ∙ until_past k _ z.before _ z.lacks_before
    ∙ ap (λ (l : List Event). z.before ++ l)
    (until_past k _ z.inside (ends k z.xs z.sc ∷ z.after) z.has ∙ rw (eq-eqb k k refl) (append-nil z.inside))

-- A stretch l, at the records from i up to j, in the whole walk

abbrev pub Apart : ℕ → ℕ → Event → Type 0
Apart i j = Walked (Off i j) (λ l. (k : ℕ) → i ≤ k → k < j → member k l ≡ false) (Off i j)

pub apart_narrow : {i j : ℕ} (a b : ℕ) → i ≤ a → b ≤ j → (l : List Event) → All (Apart i j) l → All (Apart a b) l
apart_narrow {i} {j} a b h g l p = all_map (Apart i j) (Apart a b) one l p
  where
    of : {o : Option Binder} → Of (λ b. Off i j b.ident.at) o → Of (λ c. Off a b c.ident.at) o
    of of_none = of_none
    of (of_some {b = c} f) = of_some (λ (x : a ≤ c.ident.at) (y : c.ident.at < b). f (omega arith) (omega arith))

    one : (e : Event) → Apart i j e → Apart a b e
    one (enters c sc) q = tt
    one (mentions m) q = (of q.0, λ k x y. q.1 k (omega arith) (omega arith))
    one (ends k xs sc) q = λ x y. q (omega arith) (omega arith)

pub record Stands (E : List Event) (i j : ℕ) (pre l post : List Event) : Type 0 where
  pub is : E ≡ pre ++ (l ++ post)
  pub before : All (Apart i j) pre
  pub after : All (Apart i j) post

module _ {E : List Event} {i j : ℕ} {pre post : List Event} where
  pub stands_left : (a b : ℕ) (l r : List Event) → i ≤ a → b ≤ j → All (Apart a b) r → Stands E i j pre (l ++ r) post → Stands E a b pre l (r ++ post)
  stands_left a b l r h g p s =
      record {
        is = s.is ∙ ap (λ (z : List Event). pre ++ z) (append_assoc l r post);
        before = apart_narrow a b h g pre s.before;
        after = all-++ (Apart a b) r post p (apart_narrow a b h g post s.after);
      }

  pub stands_right : (a b : ℕ) (l r : List Event) → i ≤ a → b ≤ j → All (Apart a b) l → Stands E i j pre (l ++ r) post → Stands E a b (pre ++ l) r post
  stands_right a b l r h g p s =
      record {
        is = s.is ∙ ap (λ (z : List Event). pre ++ z) (append_assoc l r post) ∙ sym (append_assoc pre l (r ++ post));
        before = all-++ (Apart a b) pre l (apart_narrow a b h g pre s.before) p;
        after = apart_narrow a b h g post s.after;
      }

  -- the uses of the whole
  pub stands_uses : (l : List Event) → Stands E i j pre l post → uses_in E ≡ uses_in pre ++ (uses_in l ++ uses_in post)
  stands_uses l s = ap uses_in s.is ∙ uses_in_lem pre (l ++ post) ∙ ap (λ (u : List Use). uses_in pre ++ u) (uses_in_lem l post)

-- No use of a record that is apart

use_apart : {i j : ℕ} (p : Use → Bool) (c : ℕ) → ((u : Use) → p u ≡ true → u.binder ≡ c) → i ≤ c → c < j → (m : Mention) {o : Option Binder}
    → Of (λ b. Off i j b.ident.at) o
    → any_use p (use_of m o) ≡ false
use_apart p c f h g m of_none = refl
use_apart {i} {j} p c f h g m (of_some {b = b} q) = go (p u) refl
  where
    u : Use
    u = record { at = m.ident.at; binder = b.ident.at; is_inner = is_inner m b; is_set = m.is_set }

    go : (z : Bool) → p u ≡ z → z || false ≡ false
    go true e = let same = f u e in absurd (q (omega arith) (omega arith))
    go false e = refl

uses_apart : {i j : ℕ} (p : Use → Bool) (c : ℕ) → ((u : Use) → p u ≡ true → u.binder ≡ c) → i ≤ c → c < j → (l : List Event) → All (Apart i j) l
    → any_use p (uses_in l) ≡ false
uses_apart p c f h g [] a = refl
uses_apart p c f h g (enters b sc ∷ l) a = uses_apart p c f h g l a.1
uses_apart p c f h g (mentions m ∷ l) a =
    any_append p (use_of m (meant m)) (uses_in l) ∙ (λ k. use_apart p c f h g m a.0.0 k || uses_apart p c f h g l a.1 k)
uses_apart p c f h g (ends k xs sc ∷ l) a = uses_apart p c f h g l a.1

pub inside_apart : {i j : ℕ} (c : ℕ) → i ≤ c → c < j → (l : List Event) → All (Apart i j) l → used_inside c (uses_in l) ≡ false
inside_apart c h g l a = uses_apart _ c (λ u e. eqb-true u.binder c (and_right u.is_inner (eqb u.binder c) e)) h g l a

pub set_apart : {i j : ℕ} (c : ℕ) → i ≤ c → c < j → (l : List Event) → All (Apart i j) l → is_set_in c (uses_in l) ≡ false
set_apart c h g l a = uses_apart _ c (λ u e. eqb-true u.binder c (and_right u.is_set (eqb u.binder c) e)) h g l a
