-- What a part of a second visit does, and how parts are put together.
use Rattle.std.specs.Prelude.{ℕ, ◌≤◌, List, ◌++◌, ◌≡◌, refl, Option, None}
use Rattle.std.proofs.Common.{◌∙◌, arith}
use Rattle.tree.specs.Tree.{Ident, Node}
use Rattle.scope_map.specs.ScopeMap.{Live}
use Rattle.semantic.specs.Rows.{Row, ListEntry}
use Rattle.pass.specs.State.{State, list_entry_at}
use Rattle.pass_laws.specs.Laws.Moves.{Moves, moves_noted}
use Rattle.pass_laws.specs.Laws.Keeps.{Off, Agree, narrow, earlier}
use Rattle.pass_laws.specs.Laws.Says.{cell_of}
use Rattle.pass_laws.specs.Laws.Changes.{same}
use Rattle.r7rs.specs.Binding.{Place, Event}
use Rattle.execution.proofs.Laws.Settled.Unsaid.{Unsaid}
use Rattle.execution.proofs.Laws.Settled.Refused.{second_by, first_second}
use Rattle.execution.proofs.Laws.Settled.Layer.{Lives}
use Rattle.execution.proofs.Laws.Settled.Again.{Frame, Script, Again, calmly_again}
use Rattle.execution.proofs.Laws.Settled.Told.{TellsAll, tells_append}
use Rattle.execution.proofs.Laws.Settled.Refuses.{Pending}

module _ (classes : List ℕ) (S : Script) (bottom : List (Live Ident)) where
  -- From s on to t the visit has walked over the events l, at the records from i up to j and the captured rows from lo up to hi, and is at the place p,
  -- with the records `left` to visit. Rows R with the keys of these records tell what is to be told of the events.
  pub record Did (left : ℕ → Type 0) (function : Option Node) (fr : Option Frame) (d : ℕ) (old : Lives) (p : Place) (l : List Event) (i j lo hi : ℕ)
      (s t : State) : Type 0 where
    pub again : Again S left bottom function fr d old p t
    pub outside : (r : ℕ) → Off lo hi r → list_entry_at t r ≡ list_entry_at s r
    pub tells : (R : List Row) → Agree i j R t → TellsAll classes S R (cell_of bottom) l
    pub second : s.noted.second ≡ None → t.noted.second ≡ second_by S l

-- fewer records
pub fewer_again : (S : Script) {own left : ℕ → Type 0} {bottom : List (Live Ident)} {function : Option Node} {fr : Option Frame} {d : ℕ} {old : Lives}
    {p : Place} {s : State}
    → ((x : ℕ) → left x → own x) → Again S own bottom function fr d old p s → Again S left bottom function fr d old p s
fewer_again S w f = calmly_again S f (record { written = λ x (o : ⊥). absurd o; kept = w; apart = λ x l o. o }) (λ free. same) refl

-- the same at another height
pub again_height : (S : Script) {own : ℕ → Type 0} {bottom : List (Live Ident)} {function : Option Node} {fr : Option Frame} {d : ℕ} {old : Lives} {p : Place}
    {s : State} (h : ℕ)
    → Again S own bottom function fr d old p s → Again S own bottom function fr d old (record {
      scope = p.scope;
      around = p.around;
      site = record { layer = p.site.layer; height = h };
    }) s
again_height S h f =
    record {
      tables = f.tables;
      arguments = f.arguments;
      inside = f.inside;
      captures = f.captures;
      one = f.one;
      live = f.live;
      around = f.around;
      stands = f.stands;
    }

-- rows left alone by a part
pub pending_after : {C : List ListEntry} {lo hi k m : ℕ} (s t : State) → Pending C k m s → ((r : ℕ) → Off lo hi r → list_entry_at t r ≡ list_entry_at s r) → hi ≤ k
    → Pending C k m t
pending_after s t p o h = record { at = λ r a b. o r (λ x y. omega arith) ∙ p.at r a b }

pub pending_part : {C : List ListEntry} {k m : ℕ} (lo hi : ℕ) {s : State} → Pending C k m s → k ≤ lo → hi ≤ m → Pending C lo hi s
pending_part lo hi p a b = record { at = λ r x y. p.at r (omega arith) (omega arith) }

module _ {classes : List ℕ} {S : Script} {bottom : List (Live Ident)} where
  pub did_both : {own left : ℕ → Type 0} {fn gn : Option Node} {fr gr : Option Frame} {d e : ℕ} {old older : Lives} {p q : Place} {l r : List Event}
      {i j a b k : ℕ} {s t u : State}
      (f n lo hi : ℕ) → f ≤ i → j ≤ n → f ≤ a → b ≤ n → lo ≤ k → k ≤ hi
      → Did classes S bottom own fn fr d old p l i j lo k s t → Moves (Off i j) t u → Did classes S bottom left gn gr e older q r a b k hi t u
      → Did classes S bottom left gn gr e older q (l ++ r) f n lo hi s u
  did_both {l = l} {r} {t = t} {u} f n lo hi h₁ h₂ h₃ h₄ h₅ h₆ X w Y =
      record {
        again = Y.again;
        outside = λ x o. Y.outside x (λ c y. o (omega arith) y) ∙ X.outside x (λ c y. o c (omega arith));
        tells = λ R ag. tells_append classes S R (cell_of bottom) l r (X.tells R (earlier ag h₁ h₂ w)) (Y.tells R (narrow ag h₃ h₄));
        second = λ e. first_second S t u l r (X.second e) Y.second (moves_noted w);
      }

  -- what is left after it
  pub did_ended : {own left : ℕ → Type 0} {fn gn : Option Node} {fr gr : Option Frame} {d e : ℕ} {old older : Lives} {p q : Place} {l : List Event}
      {i j lo hi : ℕ} {s t u : State}
      (f n : ℕ) → f ≤ i → j ≤ n → Did classes S bottom own fn fr d old p l i j lo hi s t → Moves (Off i j) t u → Again S left bottom gn gr e older q u
      → ((r : ℕ) → Off lo hi r → list_entry_at u r ≡ list_entry_at t r) → Unsaid t u → Did classes S bottom left gn gr e older q l f n lo hi s u
  did_ended f n h₁ h₂ X w g o v =
      record { again = g; outside = λ r x. o r x ∙ X.outside r x; tells = λ R ag. X.tells R (earlier ag h₁ h₂ w); second = λ e. v ∙ X.second e }

  -- a step before it that leaves lists alone
  pub did_after : {left : ℕ → Type 0} {fn : Option Node} {fr : Option Frame} {d : ℕ} {old : Lives} {p : Place} {l : List Event} {i j lo hi : ℕ} {t u : State}
      (s : State)
      → ((r : ℕ) → list_entry_at t r ≡ list_entry_at s r) → Unsaid s t → Did classes S bottom left fn fr d old p l i j lo hi t u
      → Did classes S bottom left fn fr d old p l i j lo hi s u
  did_after s e v X = record { again = X.again; outside = λ r o. X.outside r o ∙ e r; tells = X.tells; second = λ q. X.second (v ∙ q) }

  -- the same part over more records, with fewer left
  pub did_closed : {own left : ℕ → Type 0} {fn : Option Node} {fr : Option Frame} {d : ℕ} {old : Lives} {p : Place} {l : List Event} {i j lo hi : ℕ}
      {s t : State} (f n : ℕ) → f ≤ i → j ≤ n
      → ((x : ℕ) → left x → own x) → Did classes S bottom own fn fr d old p l i j lo hi s t → Did classes S bottom left fn fr d old p l f n lo hi s t
  did_closed f n h₁ h₂ w X = record {
    again = fewer_again S w X.again;
    outside = X.outside;
    tells = λ R ag. X.tells R (narrow ag h₁ h₂);
    second = X.second;
  }
