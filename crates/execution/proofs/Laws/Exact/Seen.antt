-- The mentions that a walk has met, and the captured entries that it has counted; and for each name in scope, what the entry's captured flag says.
use Rattle.std.specs.Prelude.{ℕ, suc, ◌+◌, Bool, true, false, cond, ◌&&◌, ◌||◌, ◌≡◌, refl, length, get_or, eqb, ltb, Option, None, Some}
use Rattle.std.proofs.lemmas.Option.{none-some}
use mathlib.Core.List.{List, [], ◌∷◌, ◌++◌, append-nil, reverse_aux}
use Rattle.std.proofs.Math.Bool.{or-false, and-false}
use Rattle.std.proofs.Common.{ap, subst, ◌∙◌, arith, eqb-true, eq-eqb, ne_eqb}
use Rattle.std.proofs.Math.Path.{sym}
use Rattle.std.proofs.Math.Decide.{ℕ_discrete}
use Rattle.tree.specs.Tree.{Ident}
use Rattle.tree.specs.Site.{home_at}
use Rattle.tree.specs.Accepted.{All}
use Rattle.scope_map.specs.ScopeMap.{Live}
use Rattle.r7rs.specs.Binding.{Binder, Place, Mention, Event, enters, mentions, ends, binders, entering, is_inner, Use, use_of}
use Rattle.pass.specs.Lists.{captured_most}
use Rattle.pass.specs.State.{State, no_entry}
use Rattle.pass_laws.specs.Laws.Says.{any_append, uses_in, used_inside, is_inner_use}
use Rattle.pass_laws.specs.Laws.Finds.{Around, Stands, Finds, all_map, all_zip, Of, of_none, of_some, search_for}
use Rattle.pass_laws.specs.Laws.Bodies.{all_rest}
use Rattle.execution.specs.References.{is_it, is_inner_of, any}
use Rattle.execution.specs.Acceptance.{list_length, ten_from}

-- After a stretch of the walk

abbrev pub seen_after : List Mention → List Event → List Mention
seen_after seen [] = seen
seen_after seen (enters b sc ∷ l) = seen_after seen l
seen_after seen (mentions m ∷ l) = seen_after (m ∷ seen) l
seen_after seen (ends i xs sc ∷ l) = seen_after seen l

abbrev pub count_after : List Mention → ℕ → List Event → ℕ
count_after seen n [] = n
count_after seen n (enters b sc ∷ l) = count_after seen n l
count_after seen n (mentions m ∷ l) = count_after (m ∷ seen) n l
count_after seen n (ends i xs sc ∷ l) = count_after seen (n + list_length seen xs sc sc) l

pub seen-append : (seen : List Mention) (l r : List Event) → seen_after seen (l ++ r) ≡ seen_after (seen_after seen l) r
seen-append seen [] r = refl
seen-append seen (enters b sc ∷ l) r = seen-append seen l r
seen-append seen (mentions m ∷ l) r = seen-append (m ∷ seen) l r
seen-append seen (ends i xs sc ∷ l) r = seen-append seen l r

pub count-append : (seen : List Mention) (n : ℕ) (l r : List Event) → count_after seen n (l ++ r) ≡ count_after (seen_after seen l) (count_after seen n l) r
count-append seen n [] r = refl
count-append seen n (enters b sc ∷ l) r = count-append seen n l r
count-append seen n (mentions m ∷ l) r = count-append (m ∷ seen) n l r
count-append seen n (ends i xs sc ∷ l) r = count-append seen _ l r

-- the first stretch passes the limit, or only the second may
pub ten_left : (seen : List Mention) (n : ℕ) (l r : List Event) (i : ℕ) → ten_from seen n l ≡ Some i → ten_from seen n (l ++ r) ≡ Some i
unfolding ten_from
ten_left seen n [] r i e = absurd (none-some i e)
ten_left seen n (enters b sc ∷ l) r i e = ten_left seen n l r i e
ten_left seen n (mentions m ∷ l) r i e = ten_left (m ∷ seen) n l r i e
ten_left seen n (ends j xs sc ∷ l) r i e = go (ltb captured_most k) (λ q. ten_left seen k l r i q) e
  where
    k : ℕ
    k = n + list_length seen xs sc sc

    go : (q : Bool) → (ten_from seen k l ≡ Some i → ten_from seen k (l ++ r) ≡ Some i) → cond q (Some j) (ten_from seen k l) ≡ Some i → cond q (Some j) (ten_from seen k (l ++ r)) ≡ Some i
    go true h e = e
    go false h e = h e

pub ten_right : (seen : List Mention) (n : ℕ) (l r : List Event) → ten_from seen n l ≡ None → ten_from seen n (l ++ r) ≡ ten_from (seen_after seen l) (count_after seen n l) r
unfolding ten_from
ten_right seen n [] r e = refl
ten_right seen n (enters b sc ∷ l) r e = ten_right seen n l r e
ten_right seen n (mentions m ∷ l) r e = ten_right (m ∷ seen) n l r e
ten_right seen n (ends j xs sc ∷ l) r e = go (ltb captured_most k) (λ q. ten_right seen k l r q) e
  where
    k : ℕ
    k = n + list_length seen xs sc sc

    rest : Option ℕ
    rest = ten_from (seen_after seen l) (count_after seen k l) r

    go : (q : Bool) → (ten_from seen k l ≡ None → ten_from seen k (l ++ r) ≡ rest) → cond q (Some j) (ten_from seen k l) ≡ None → cond q (Some j) (ten_from seen k (l ++ r)) ≡ rest
    go true h e = absurd (none-some j (sym e))
    go false h e = h e

-- names that enter: nothing is met or counted

pub seen-entering : (seen : List Mention) (bs sc : List Binder) → seen_after seen (entering bs sc) ≡ seen
unfolding entering
seen-entering seen [] sc = refl
seen-entering seen (b ∷ bs) sc = seen-entering seen bs (b ∷ sc)

pub count-entering : (seen : List Mention) (n : ℕ) (bs sc : List Binder) → count_after seen n (entering bs sc) ≡ n
unfolding entering
count-entering seen n [] sc = refl
count-entering seen n (b ∷ bs) sc = count-entering seen n bs (b ∷ sc)

pub ten_entering : (seen : List Mention) (n : ℕ) (bs sc : List Binder) → ten_from seen n (entering bs sc) ≡ None
unfolding entering ten_from
ten_entering seen n [] sc = refl
ten_entering seen n (b ∷ bs) sc = ten_entering seen n bs (b ∷ sc)

-- The mentions, against the uses: none means a record that is left, and of a name in scope both say the same
pub record Seen (own : ℕ → Type 0) (before : List Use) (seen : List Mention) (sc : List Binder) : Type 0 where
  pub unseen : (b : Binder) → own b.ident.at → any (is_inner_of b) seen ≡ false
  pub said : All (λ b. used_inside b.ident.at before ≡ any (is_inner_of b) seen) sc

module _ {own left : ℕ → Type 0} {before : List Use} {seen : List Mention} (w : (x : ℕ) → left x → own x) where
  -- fewer records
  pub seen_fewer : {sc : List Binder} → Seen own before seen sc → Seen left before seen sc
  seen_fewer k = record { unseen = λ b o. k.unseen b (w b.ident.at o); said = k.said }

  -- out of a body
  pub seen_out : (bs sc : List Binder) → Seen own before seen (reverse_aux bs sc) → Seen left before seen sc
  seen_out bs sc k = record { unseen = λ b o. k.unseen b (w b.ident.at o); said = all_rest _ bs sc k.said }

  -- into one
  pub seen_in : (is_let : Bool) (base : ℕ) (q : Place) (j : ℕ) (xs : List Ident) (sc : List Binder) → All (λ x. own x.at) xs → ((x : ℕ) → own x → used_inside x before ≡ false)
      → Seen own before seen sc → Seen left before seen (reverse_aux (binders is_let base q j xs) sc)
  unfolding binders
  seen_in is_let base q j [] sc o u k = seen_fewer k
  seen_in is_let base q j (x ∷ xs) sc o u k =
      let b : Binder = record { ident = x; is_let = is_let; place = j; around = q.around; home = home_at q.site (base + j) } in
      seen_in is_let base q (suc j) xs (b ∷ sc) o.1 u (record { unseen = k.unseen; said = (u x.at o.0 ∙ sym (k.unseen b o.0), k.said) })

-- other uses that are the same
pub seen-uses : {own : ℕ → Type 0} {before after : List Use} {seen : List Mention} {sc : List Binder} → before ≡ after → Seen own before seen sc → Seen own after seen sc
seen-uses {own} {seen = seen} {sc} e k = subst (λ (u : List Use). Seen own u seen sc) e k

-- A mention more

swap : (u i : Bool) → u || ((i && true) || false) ≡ (i && true) || u
swap true true = refl
swap true false = refl
swap false true = refl
swap false false = refl

-- the flag is raised by an inner mention (i, j) of the name (q)
raised : (u i j q : Bool) → (q ≡ true → i ≡ j) → u || ((i && q) || false) ≡ (j && q) || u
raised u i j true h = rw (h refl) (swap u j)
raised u i j false h = rw (and-false i, and-false j) (or-false u)

same_test : (x y : ℕ) → eqb x y ≡ eqb y x
same_test x y = go (ℕ_discrete x y)
  where
    go : Dec (x ≡ y) → eqb x y ≡ eqb y x
    go (yes e) = eq-eqb x y e ∙ sym (eq-eqb y x (sym e))
    go (no n) = ne_eqb x y n ∙ sym (ne_eqb y x (λ e. n (sym e)))

-- of two names around a place that are bound in one layer, a mention there is inner of both or of none
same_inner : {layer : ℕ} {lambdas : List ℕ} (b c : Binder) → Around layer lambdas b → Around layer lambdas c → b.home.layer ≡ c.home.layer
    → ltb (length b.around) (length lambdas) ≡ ltb (length c.around) (length lambdas)
same_inner {layer} {lambdas} b c p q e = go (ltb (length b.around) (length lambdas)) (ltb (length c.around) (length lambdas)) refl refl
  where
    go : (i j : Bool) → ltb (length b.around) (length lambdas) ≡ i → ltb (length c.around) (length lambdas) ≡ j → i ≡ j
    go true true f g = refl
    go false false f g = refl
    go true false f g = absurd (omega (arith, p.outer f, q.own g))
    go false true f g = absurd (omega (arith, p.own f, q.outer g))

module _ {own : ℕ → Type 0} {bottom : List (Live Ident)} {before : List Use} {seen : List Mention} {p : Place} {s : State} (f : Finds own bottom before p s)
    (k : Seen own before seen p.scope) (x : Ident) (is_set : Bool) where
  abbrev at : Mention
  at = record { ident = x; is_set = is_set; place = p }

  abbrev InScope : Binder → Type 0
  InScope b = Around p.site.layer p.around b × Stands own s.scope.entries before b

  mention-said : {o : Option Binder} → Of InScope o → (b : Binder) → InScope b → used_inside b.ident.at before ≡ any (is_inner_of b) seen
      → used_inside b.ident.at (before ++ (use_of at o ++ [])) ≡ (is_inner at b && is_it b o) || any (is_inner_of b) seen
  mention-said of_none b h e = rw (append-nil before, and-false (is_inner at b)) e
  mention-said (of_some {b = c} g) b h e =
      any_append (is_inner_use b.ident.at) before _
      ∙ raised (used_inside b.ident.at before) (is_inner at c) (is_inner at b) (eqb c.ident.at b.ident.at)
      (λ q. same_inner c b g.0 h.0
      (sym g.1.held.depth ∙ ap (λ (i : ℕ). (get_or s.scope.entries i no_entry).depth) (eqb-true c.ident.at b.ident.at q) ∙ h.1.held.depth))
      ∙ ap (λ (q : Bool). (is_inner at b && q) || used_inside b.ident.at before) (same_test c.ident.at b.ident.at)
      ∙ ap (λ (u : Bool). (is_inner at b && eqb b.ident.at c.ident.at) || u) e

  mention_unseen : {o : Option Binder} → Of InScope o → (b : Binder) → own b.ident.at → (is_inner at b && is_it b o) || any (is_inner_of b) seen ≡ false
  mention_unseen of_none b o = rw (and-false (is_inner at b)) (k.unseen b o)
  mention_unseen (of_some {b = c} g) b o =
      rw (ne_eqb b.ident.at c.ident.at (λ e. g.1.apart (subst own e o)), and-false (is_inner at b)) (k.unseen b o)

  pub mention-seen : Seen own (before ++ uses_in (mentions at ∷ [])) (at ∷ seen) p.scope
  unfolding any
  mention-seen =
      let m = (search_for f x.name).meant in
      record {
        unseen = mention_unseen m;
        said = all_map (λ b q. mention-said m b q.0 q.1) p.scope (all_zip _ _ p.scope (all_zip _ _ p.scope f.around f.stands) k.said);
      }
