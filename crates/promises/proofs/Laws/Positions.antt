-- Records that differ only in their positions are answered alike: from what the operations ensure, and that positions are carried.
use Rattle.std.specs.Prelude.{ℕ, ◌%◌, List, [], ◌∷◌, ◌++◌, map, Bool, true, false, ◌≡◌, refl, length, replicate, eqb, Option, None, Some}
use Rattle.std.proofs.Common.{true≢false, ap, sym, ◌∙◌, eqb-true}
use Rattle.table.specs.Layout.{layout}
use Rattle.table.specs.Laws.Layout.{zeros-layout}
use Rattle.tree.specs.Record.{width}
use Rattle.tree.specs.Tree.{Trees}
use Rattle.tree.specs.Check.{Refusal, refusal}
use Rattle.tree.proofs.Laws.Acceptance.{accepted}
use Rattle.semantic.specs.Rows.{Blank, row_width, put_row, put_list_entry}
use Rattle.semantic.specs.Laws.Rows.{row_long}
use Rattle.pass.specs.State.{State}
use Rattle.pass.specs.Run.{rows_most, Tables, tables_of, zeros, Outcome, outcome, fitting, Answers, fresh, settled, refused_first, or_second, fresh_outcome, settled_outcome}
use Rattle.pass.specs.Bare.{bares}
use Rattle.execution.specs.Positions.{Same}
use Rattle.execution.proofs.Laws.Carried.{positions_carried}
use Rattle.promises.specs.Promises.{bare_records, Alike, FreshPositions, SettledPositions}
use Rattle.promises.proofs.Laws.Records.{same_refusal, same_trees}

refused_alike : (r : Refusal) → Alike (record { refused = Some r; tables = zeros }) (record { refused = Some r; tables = zeros })
unfolding zeros put_row
refused_alike r =
    let z = sym (zeros-layout row_width put_row row_long Blank refl rows_most) in
    record {
      refused = refl;
      facts = record { T = replicate rows_most Blank; U = replicate rows_most Blank; is_t = z; is_u = z; same = refl };
      captured = refl;
      arguments = refl;
    }

-- the entries hold no position
listed : {A : Type 0} (put : A → List ℕ) (l : List A) → layout put l ≡ layout (λ (x : List ℕ). x) (map put l)
unfolding layout
listed put [] = refl
listed put (a ∷ l) = ap (λ (m : List ℕ). put a ++ m) (listed put l)

laid_alike : {A : Type 0} (put : A → List ℕ) (l m : List A) → map put l ≡ map put m → layout put l ≡ layout put m
laid_alike put l m e = listed put l ∙ ap (layout (λ (x : List ℕ). x)) e ∙ sym (listed put m)

-- what a run leaves
left_alike : (s u : State) → Same s u → Alike (record { refused = None; tables = tables_of s.facts }) (record { refused = None; tables = tables_of u.facts })
unfolding tables_of
left_alike s u x = record {
  refused = refl;
  facts = record { T = s.facts.rows; U = u.facts.rows; is_t = refl; is_u = refl; same = x.rows };
  captured = laid_alike put_list_entry s.facts.captured u.facts.captured x.captured;
  arguments = laid_alike put_list_entry s.facts.arguments u.facts.arguments x.arguments;
}

outcome_alike : (q r : Option Refusal) (s u : State) → q ≡ r → Same s u → Alike (outcome q s.facts) (outcome r u.facts)
outcome_alike q r s u e x = rw e (by_refusal r)
  where
    by_refusal : (p : Option Refusal) → Alike (outcome p s.facts) (outcome p u.facts)
    by_refusal (Some p) = refused_alike p
    by_refusal None = left_alike s u x

abbrev refused : State → State → Option Refusal
refused s u = or_second (refused_first s.noted) u.noted.second

module _ (classes : List ℕ) (ts us : Trees) (h : bares ts ≡ bares us) where
  fresh-runs : Alike (fresh_outcome classes ts) (fresh_outcome classes us)
  unfolding fresh_outcome
  fresh-runs =
      let f = (positions_carried classes ts us h).0 in
      outcome_alike _ _ (fresh classes ts) (fresh classes us) (ap refused_first f.noted) f

  settled-runs : Alike (settled_outcome classes ts) (settled_outcome classes us)
  unfolding settled_outcome
  settled-runs =
      let f = (positions_carried classes ts us h).0 in
      let g = (positions_carried classes ts us h).1 in
      outcome_alike (refused (fresh classes ts) (settled classes ts)) (refused (fresh classes us) (settled classes us))
      (settled classes ts) (settled classes us) (rw (f.noted, g.noted)) g

whole : (rs : List ℕ) (t : Tables) → fitting rs t ≡ true → length rs % width ≡ 0
unfolding fitting
whole rs t h = go (eqb (length rs % width) 0) refl
  where
    go : (b : Bool) → eqb (length rs % width) 0 ≡ b → length rs % width ≡ 0
    go true e = eqb-true (length rs % width) 0 e
    go false e = absurd (true≢false (sym (rw e at h)))

-- whatever the records are
answers_alike : {f : List ℕ → Trees → Outcome} {classes rs qs : List ℕ} {t u : Tables} {o p : Outcome}
    → ((ts us : Trees) → bares ts ≡ bares us → Alike (f classes ts) (f classes us)) → fitting rs t ≡ true → fitting qs u ≡ true → bare_records rs ≡ bare_records qs
    → Answers f classes rs t o → Answers f classes qs u p → Alike o p
answers_alike {f} {classes} {rs} {qs} {t} {u} {o} {p} runs g k h x y = by_checks (refusal N rs) refl
  where
    N : ℕ
    N = length classes

    same : refusal N rs ≡ refusal N qs
    same = same_refusal N rs qs (whole rs t g) (whole qs u k) h

    by_checks : (c : Option Refusal) → refusal N rs ≡ c → Alike o p
    by_checks (Some r) e = rw (x.unsound g r e, y.unsound k r (sym same ∙ e)) (refused_alike r)
    by_checks None e =
        let (ts, a) = accepted N rs e in
        let (us, b) = accepted N qs (sym same ∙ e) in
        rw (x.sound g ts a, y.sound k us b) (runs ts us (same_trees a b h))

pub fresh_positions : FreshPositions
fresh_positions classes rs qs t u o p g k h x y = answers_alike (fresh-runs classes) g k h x.answers y.answers

pub settled_positions : SettledPositions
settled_positions classes rs qs t u o p g k h x y = answers_alike (settled-runs classes) g k h x.answers y.answers
