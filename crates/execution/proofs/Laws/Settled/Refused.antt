-- Refusals 11 and 12 of a second run, event by event of R7RS's walk.
use Rattle.std.specs.Prelude.{ℕ, suc, Bool, true, false, cond, ◌&&◌, ◌≡◌, length, ltb, Option, None, Some}
use Rattle.std.proofs.lemmas.Option.{none-some}
use mathlib.Core.List.{List, [], ◌∷◌, ◌++◌}
use Rattle.std.proofs.Math.Path.{refl, ap}
use Rattle.std.proofs.Common.{sym, ◌∙◌, arith, le-ltb, ltb-false}
use Rattle.tree.specs.Tree.{Ident}
use Rattle.tree.specs.Check.{Refusal}
use Rattle.pass.specs.State.{State}
use Rattle.pass_laws.specs.Laws.Changes.{Later}
use Rattle.r7rs.specs.Binding.{Binder, Mention, Event, enters, mentions, ends, meant, Use}
use Rattle.execution.specs.Acceptance.{is_empty}
use Rattle.execution.proofs.Laws.Settled.Again.{Script, shared, is_twelve_by}

abbrev pub is_eleven_by : Script → Binder → Bool
is_eleven_by S b = (b.is_let && is_empty b.around) && shared S.U b.ident.at

abbrev pub is_twelve_at : Script → Mention → Option Binder → Bool
is_twelve_at S m None = false
is_twelve_at S m (Some b) = is_twelve_by S.G m.place.scope m.ident.name b m.place.around

module _ (S : Script) where
  unfoldable pub second_by : List Event → Option Refusal
  second_by [] = None
  second_by (enters b sc ∷ l) = cond (is_eleven_by S b) (Some (record { number = 11; at = b.ident.at })) (second_by l)
  second_by (mentions m ∷ l) = cond (is_twelve_at S m (meant m)) (Some (record { number = 12; at = m.ident.at })) (second_by l)
  second_by (ends i xs sc ∷ l) = second_by l

  or_next : (q : Bool) (r : Refusal) (a b : Option Refusal) (x : Refusal) → (a ≡ Some x → b ≡ Some x) → cond q (Some r) a ≡ Some x → cond q (Some r) b ≡ Some x
  or_next true r a b x k e = e
  or_next false r a b x k e = k e

  or_same : (q : Bool) (r : Refusal) (a b c : Option Refusal) → (a ≡ None → b ≡ c) → cond q (Some r) a ≡ None → cond q (Some r) b ≡ c
  or_same true r a b c k e = absurd (none-some r (sym e))
  or_same false r a b c k e = k e

  second_left : (l r : List Event) (x : Refusal) → second_by l ≡ Some x → second_by (l ++ r) ≡ Some x
  unfolding second_by
  second_left [] r x e = absurd (none-some x e)
  second_left (enters b sc ∷ l) r x e = or_next (is_eleven_by S b) _ (second_by l) (second_by (l ++ r)) x (λ q. second_left l r x q) e
  second_left (mentions m ∷ l) r x e = or_next (is_twelve_at S m (meant m)) _ (second_by l) (second_by (l ++ r)) x (λ q. second_left l r x q) e
  second_left (ends i xs sc ∷ l) r x e = second_left l r x e

  second_right : (l r : List Event) → second_by l ≡ None → second_by (l ++ r) ≡ second_by r
  unfolding second_by
  second_right [] r e = refl
  second_right (enters b sc ∷ l) r e = or_same (is_eleven_by S b) _ (second_by l) (second_by (l ++ r)) (second_by r) (λ q. second_right l r q) e
  second_right (mentions m ∷ l) r e = or_same (is_twelve_at S m (meant m)) _ (second_by l) (second_by (l ++ r)) (second_by r) (λ q. second_right l r q) e
  second_right (ends i xs sc ∷ l) r e = second_right l r e

  -- a lambda's end
  pub ended_second : (l : List Event) (i : ℕ) (xs : List Ident) (sc : List Binder) → second_by (l ++ (ends i xs sc ∷ [])) ≡ second_by l
  unfolding second_by
  ended_second [] i xs sc = refl
  ended_second (enters b zs ∷ l) i xs sc = ap (cond (is_eleven_by S b) (Some (record { number = 11; at = b.ident.at }))) (ended_second l i xs sc)
  ended_second (mentions m ∷ l) i xs sc = ap (cond (is_twelve_at S m (meant m)) (Some (record { number = 12; at = m.ident.at }))) (ended_second l i xs sc)
  ended_second (ends k ys zs ∷ l) i xs sc = ended_second l i xs sc

  -- l is met up to t, and r from there up to u
  pub first_second : (t u : State) (l r : List Event) → t.noted.second ≡ second_by l → (t.noted.second ≡ None → u.noted.second ≡ second_by r)
      → Later t.noted u.noted
      → u.noted.second ≡ second_by (l ++ r)
  first_second t u l r p q later = go t.noted.second refl
    where
      go : (o : Option Refusal) → t.noted.second ≡ o → u.noted.second ≡ second_by (l ++ r)
      go None e = q e ∙ sym (second_right l r (sym p ∙ e))
      go (Some x) e = later.first_second x e ∙ sym (second_left l r x (sym p ∙ e))

-- no read of a body's own name is refused
pub own_twelve : (G : ℕ → List Use) (sc : List Binder) (x : ℕ) (b : Binder) (a : List ℕ) → ltb (length b.around) (length a) ≡ false
    → is_twelve_by G sc x b a ≡ false
own_twelve G sc x b [] e = refl
own_twelve G sc x b (i ∷ []) e = refl
own_twelve G sc x b (i ∷ j ∷ is) e = rw (le-ltb (length b.around) (suc (length is)) (omega
    (arith, ltb-false (length b.around) (suc (suc (length is))) e)))
