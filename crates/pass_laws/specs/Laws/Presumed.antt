-- What the static meaning presumes: of a use, nothing; or, where no name is set that an inner lambda mentions, whether its name is set anywhere.
use Rattle.std.specs.Prelude.{ℕ, List, [], ◌∷◌, Bool, true, false, ◌&&◌, ◌||◌, ◌≡◌, refl, eqb, Option, None, Some}
use mathlib.Core.List.Memᴰ
use mathlib.Core.List.Memᴰ.{head as here}
use mathlib.Core.List.Memᴰ.{tail as there}
use mathlib.Core.List.{Memᴰ as Member}
use Rattle.std.proofs.Common.{true≢false, ap, sym, ◌∙◌, eqb-true, eq-eqb}
use Rattle.std.proofs.Math.Bool.{or-true}
use Rattle.r7rs.specs.Binding.{Binder, Mention, Event, enters, mentions, ends, meant, Use, use_of}
use Rattle.pass_laws.specs.Static.{Presumption}
use Rattle.pass_laws.specs.Laws.Says.{uses_in, is_set_use, any_use, is_set_in, Presumed, Presumes}

-- Nothing

abbrev pub any_uses : Presumption
any_uses = record { ReadInside = λ b. Unit {0}; SetOwn = λ b. Unit {0}; SetInside = λ b. Unit {0} }

-- Of the uses U: a name that an inner lambda reads is never set, one that its own body sets is, and none is set by an inner lambda

abbrev pub unshared : List Use → Presumption
unshared U = record { ReadInside = λ b. is_set_in b.at U ≡ false; SetOwn = λ b. is_set_in b.at U ≡ true; SetInside = λ b. ⊥ }

-- no name is set that an inner lambda mentions
abbrev pub Unshared : List Use → Type 0
Unshared U = (u v : Use) → Member u U → Member v U → u.binder ≡ v.binder → u.is_set ≡ true → v.is_inner ≡ true → ⊥

any-member : (p : Use → Bool) {u : Use} {l : List Use} → Member u l → p u ≡ true → any_use p l ≡ true
any-member p {u} (here {x = v} {xs = l} e) q = ap (λ (b : Bool). b || any_use p l) (sym (ap p e) ∙ q)
any-member p (there {x = v} m) q = ap (λ (b : Bool). p v || b) (any-member p m q) ∙ or-true (p v)

member-any : (p : Use → Bool) (l : List Use) → any_use p l ≡ true → (u : Use) × Member u l × (p u ≡ true)
member-any p [] e = absurd (true≢false (sym e))
member-any p (v ∷ l) e = go (p v) refl (λ r. member-any p l r) e
  where
    go : (b : Bool) → p v ≡ b → (any_use p l ≡ true → (u : Use) × Member u l × (p u ≡ true)) → b || any_use p l ≡ true → (u : Use) × Member u (v ∷ l) × (p u ≡ true)
    go true q f r = (v, here refl, q)
    go false q f r = let w = f r in (w.0, there w.1, w.2)

set_use : (b : ℕ) (u : Use) → is_set_use b u ≡ true → (u.is_set ≡ true) × (u.binder ≡ b)
set_use b u e = go u.is_set (eqb u.binder b) refl refl e
  where
    go : (s q : Bool) → u.is_set ≡ s → eqb u.binder b ≡ q → s && q ≡ true → (u.is_set ≡ true) × (u.binder ≡ b)
    go true true s q r = (s, eqb-true u.binder b q)
    go true false s q r = absurd (true≢false (sym r))
    go false q s t r = absurd (true≢false (sym r))

module _ (U : List Use) (no : Unshared U) where
  never_set : (u : Use) → Member u U → u.is_inner ≡ true → is_set_in u.binder U ≡ false
  never_set u m i = go (is_set_in u.binder U) refl
    where
      go : (b : Bool) → is_set_in u.binder U ≡ b → b ≡ false
      go true e =
          let (v, n, q) = member-any (is_set_use u.binder) U e in
          let (s, r) = set_use u.binder v q in
          absurd (no v u n m r s i)
      go false e = refl

  is_set_lem : (u : Use) → Member u U → u.is_set ≡ true → is_set_in u.binder U ≡ true
  is_set_lem u m s = any-member (is_set_use u.binder) m (rw (s, eq-eqb u.binder u.binder refl))

  presumed : (m : Mention) (o : Option Binder) → ((u : Use) → Member u (use_of m o) → Member u U) → Presumed (unshared U) m o
  presumed m None w = tt
  presumed m (Some b) w =
      let u = w _ (here refl) in
      record {
        ReadInside = λ s i. never_set _ u i;
        SetOwn = λ s i. is_set_lem _ u s;
        SetInside = λ s i. no _ _ u u refl s i;
      }

  pub presumes : (l : List Event) → ((u : Use) → Member u (uses_in l) → Member u U) → Presumes (unshared U) l
  presumes [] w = tt
  presumes (enters b sc ∷ l) w = presumes l w
  presumes (mentions m ∷ l) w = (presumed m (meant m) (λ u i. w u (Memᴰ.append_left _ i)), presumes l (λ u i. w u (Memᴰ.append_right (use_of m (meant m)) i)))
  presumes (ends i xs sc ∷ l) w = presumes l w
