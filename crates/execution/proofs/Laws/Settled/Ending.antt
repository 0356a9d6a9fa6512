-- A let and a lambda at their end, on a fresh run: the entries of their names, and the captured list, are those of `Kept`.
use Rattle.std.specs.Prelude.{ℕ, ◌+◌, ◌-◌, ◌≤◌, ◌<◌, Bool, true, false, ◌≡◌, refl, length, get_or, Option, None}
use mathlib.Core.List.{List, map, reverse_aux}
use Rattle.std.proofs.Common.{ap, sym, subst, ◌∙◌, arith}
use Rattle.std.proofs.lemmas.List.Edits.{sets}
use Rattle.tree.specs.Tree.{Ident, Node, Tree}
use Rattle.tree.specs.Accepted.{All}
use Rattle.scope_map.specs.ScopeMap.{Live}
use Rattle.semantic.specs.Rows.{Row, Blank, Variable, Function, CallSite, Let, ListEntry, no_list_entry}
use Rattle.semantic.specs.declared.ListAt.{ListAt}
use Rattle.semantic.specs.declared.LetInformation.{LetInformation}
use Rattle.pass.specs.State.{Noted, State, entry_at}
use Rattle.pass.specs.Lists.{captured_vars, sort_by_id, captured_most}
use Rattle.pass.specs.Lambda.{name_in, entered, close_lambda, close_let}
use Rattle.pass.specs.Run.{list_entries_most}
use Rattle.pass_laws.specs.Laws.Rows.{key, key_function}
use Rattle.pass_laws.specs.Laws.Changes.{Later, Lengths}
use Rattle.pass_laws.specs.Laws.Says.{used_inside, is_set_in}
use Rattle.pass_laws.specs.Laws.Finds.{Around, Finds, all_map}
use Rattle.r7rs.specs.Binding.{Binder, Place, Use, binders, lambda_body, let_body, parameters, let_names, within}
use Rattle.execution.proofs.Laws.Exact.Captured.{top_of}
use Rattle.execution.proofs.Laws.Settled.Listed.{Taken, listed}
use Rattle.execution.proofs.Laws.Settled.Tables.{put-at, arguments_of, Ended, lambda_ended, let_ended, parameters-entered}
use Rattle.execution.proofs.Laws.Settled.Kept.{count_from, NamesKept, LetKept, LambdaKept, Grown, let_grown, lambda_grown, Final, Leaves, all-names, names_kept, entered-length, all-at, count_at}

-- neither 9 nor 10 is noted
pub record Unnoted (n : Noted) : Type 0 where
  pub nine : n.nine ≡ None
  pub ten : n.ten ≡ None

pub unnoted : {m n : Noted} → Later m n → Unnoted n → Unnoted m
unnoted l u = record { nine = l.nine u.nine; ten = l.ten u.ten }

-- the tables have room for k argument entries
pub record Room (k : ℕ) (s : State) : Type 0 where
  pub captured : length s.facts.captured ≡ list_entries_most
  pub arguments : length s.facts.arguments ≡ list_entries_most
  pub few : arguments_of s + k ≤ list_entries_most

pub room_after : {j k : ℕ} (m : ℕ) {s t : State} → Room k s → Grown j s t → Lengths s t → j + m ≤ k → Room m t
room_after m r g l h =
    record { captured = l.captured ∙ r.captured; arguments = l.arguments ∙ r.arguments; few = omega (arith, r.few, g.few) }

-- the room of one part of a form
pub room_part : {n : ℕ} (k : ℕ) {s : State} → Room n s → k ≤ n → Room k s
room_part k r h = record { captured = r.captured; arguments = r.arguments; few = omega (arith, r.few) }

pub key_let : (r : Row) {v : LetInformation} → key r ≡ Let v → r ≡ Let v
key_let Blank e = e
key_let (Variable v) e = let z : ◌≡◌ {A = ℕ} 0 1 = cc in absurd (omega arith)
key_let (Function v) e = e
key_let (CallSite v) e = e
key_let (Let v) e = e

-- the flags of names that leave
flags : {own : ℕ → Type 0} {bottom : List (Live Ident)} {after : List Use} (is_let : Bool) (base : ℕ) (q : Place) (xs : List Ident) (sc : List Binder)
    (s : State)
    → Finds own bottom after (record { scope = reverse_aux (binders is_let base q 0 xs) sc; around = q.around; site = q.site }) s
    → All (λ x. ((entry_at s x.at).captured ≡ used_inside x.at after) × ((entry_at s x.at).mutated ≡ is_set_in x.at after)) xs
flags is_let base q xs sc s f =
    all-names _ is_let base q 0 xs sc (all_map (λ b k. (k.held.captured, k.held.mutated)) (reverse_aux (binders is_let base q 0 xs) sc) f.stands)

module _ {T : List Row} {C A : List ListEntry} where
  -- the entries of a list that was put at the end of its table
  arguments_at_lem : {i j : ℕ} {t : State} (s : State) (a : List ListEntry) → Room (length a) s → t.facts.arguments ≡ sets s.facts.arguments (arguments_of s) a
      → arguments_of t ≡ arguments_of s + length a → Final T C A i j t → (k : ℕ) → k < length a → get_or A (arguments_of s + k) no_list_entry ≡ get_or a k no_list_entry
  arguments_at_lem s a r e n f k h =
      f.arguments (arguments_of s + k) (omega arith)
      ∙ ap (λ (l : List ListEntry). get_or l (arguments_of s + k) no_list_entry) e
      ∙ put-at s.facts.arguments a (arguments_of s) k (omega (arith, r.few, r.arguments)) h

  captured_at_lem : {i j : ℕ} {t : State} (s : State) (l : List ListEntry) → length s.facts.captured ≡ list_entries_most → top_of s + length l ≤ captured_most
      → t.facts.captured ≡ sets s.facts.captured (top_of s) l → top_of t ≡ top_of s + length l → Final T C A i j t
      → (k : ℕ) → k < length l → get_or C (top_of s + k) no_list_entry ≡ get_or l k no_list_entry
  captured_at_lem s l r g e n f k h =
      f.captured (top_of s + k) (omega arith)
      ∙ ap (λ (c : List ListEntry). get_or c (top_of s + k) no_list_entry) e
      ∙ put-at s.facts.captured l (top_of s) k (omega (arith, r)) h

  pub let_leaves : {own : ℕ → Type 0} {bottom : List (Live Ident)} {after : List Use} (i : ℕ) (opened : Bool) (n : Node) (xs : List Ident) (height : ℕ)
      (function : Option Node) (p : Place) (s : State)
      → n.at ≡ i → own n.at → Finds own bottom after (within (let_names xs p) (let_body (length xs) p)) s → Room (length xs) s
      → Leaves T C A i (i + 1) (length xs) s (close_let opened n xs height function s) (LetKept T C A after n xs)
  let_leaves {after = after} i opened n xs height function p s m o f r =
      let e = let_ended opened n xs height function s (f.tables.blank n.at o) (f.tables.rows n.at o) in
      let a = entered xs s in
      let long = entered-length xs s in
      let room : Room (length a) s = record { captured = r.captured; arguments = r.arguments; few = omega (arith, r.few) } in
      record {
        grown = subst (λ (k : ℕ). Grown k s (close_let opened n xs height function s)) long (let_grown e);
        kept = λ g. record {
          info = e.info;
          is = key_let (get_or T n.at Blank) (g.rows.at n.at (omega arith) (omega arith) ∙ ap key e.is);
          many = ap (λ (v : ListAt). v.length) e.arguments_at ∙ long;
          names = subst (λ (v : ListAt). NamesKept T C A after v.first xs) (sym e.arguments_at)
              (names_kept T C A after s (arguments_of s) xs (arguments_at_lem s a room e.arguments e.arguments_top g)
              (flags true p.site.height (let_body (length xs) p) xs p.scope s f));
        };
      }

  pub lambda_leaves : {own : ℕ → Type 0} {bottom : List (Live Ident)} {after : List Use} (i : ℕ) (n : Node) (xs : List Ident) (b : Tree) (escapes : Bool)
      (p : Place) (s : State)
      → n.at ≡ i → own n.at → 1 ≤ p.site.layer → All (Around p.site.layer p.around) p.scope
      → Finds own bottom after (within (parameters n xs p) (lambda_body n (length xs) p)) s
      → Room (length xs) s → (close_lambda n xs b escapes s).noted.ten ≡ None
      → Leaves T C A i (i + 1) (length xs) s (close_lambda n xs b escapes s) (LambdaKept T C A (top_of s) (top_of (close_lambda n xs b escapes s)) after n xs
      p.scope)
  lambda_leaves {bottom = bottom} {after} i n xs b escapes p s m o one around f r ten =
      let q = lambda_body n (length xs) p in
      let l = sort_by_id (captured_vars (map name_in xs) s) in
      let t = close_lambda n xs b escapes s in
      let a = entered xs s in
      let list_entries = parameters-entered p.site.layer p.around 0 q xs p.scope bottom s one refl around (all_map (λ e g. g.layer) bottom f.tables.globals)
      f.live in
      let e : Ended n l a s t = subst (λ (k : List ListEntry). Ended n l k s t) list_entries
      (lambda_ended n xs b escapes s (f.tables.blank n.at o) (f.tables.rows n.at o) ten) in
      let long = entered-length xs s in
      let room : Room (length a) s = record { captured = r.captured; arguments = r.arguments; few = omega (arith, r.few) } in
      let list = listed 0 q xs p.scope f in
      record {
        grown = subst (λ (k : ℕ). Grown k s t) long (lambda_grown e);
        kept = λ g.
            let at = captured_at_lem s l r.captured e.fits e.captured e.top g in
            record {
              info = e.info;
              is = key_function (get_or T n.at Blank) (g.rows.at n.at (omega arith) (omega arith) ∙ ap key e.is);
              many = ap (λ (v : ListAt). v.length) e.arguments_at ∙ long;
              names = subst (λ (v : ListAt). NamesKept T C A after v.first xs) (sym e.arguments_at)
                  (names_kept T C A after s (arguments_of s) xs (arguments_at_lem s a room e.arguments e.arguments_top g) (flags false 0 q xs p.scope s f));
              from = ap (λ (v : ListAt). v.first) e.captured_at;
              to = ap (λ (v : ListAt). top_of s + v.length) e.captured_at ∙ sym e.top;
              few = omega (arith, e.fits, e.top);
              taken = λ k h₁ h₂.
                  let j = k - top_of s in
                  let here : k ≡ top_of s + j = omega arith in
                  subst (Taken after xs p.scope) (sym (ap (λ (k : ℕ). get_or C k no_list_entry) here ∙ at j (omega (arith, e.top))))
                  (all-at (Taken after xs p.scope) l list.taken j (omega (arith, e.top)));
              times = λ x c h₁ h₂ h₃. ap (λ (v : ListAt). count_from C x (top_of s) v.length) e.captured_at
                  ∙ count_at C l x (top_of s) at ∙ list.times x c h₁ h₂ h₃;
            };
      }
