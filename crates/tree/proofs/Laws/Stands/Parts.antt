-- The parts of a tree that stands in its place, form by form: they stand right after its record, one after another.
use Rattle.std.specs.Prelude.{ℕ, suc, ◌+◌, List, ◌∷◌, ◌++◌, map, ◌≡◌, length}
use Rattle.std.proofs.Common.{subst, arith}
use Rattle.std.proofs.lemmas.List.{length-map}
use Rattle.tree.specs.Record.{Record, nth}
use Rattle.tree.specs.Tree.{Ident, Node, Tree, Trees, if, letin, define, lambda, sequence, call, set!, Sequence, node_in, form_in, Tested, many, head, named, flat, flats, size, sizes, Num}
use Rattle.tree.proofs.Laws.Tree.{length_flat, length_flats}
use Rattle.tree.proofs.Laws.Parts.{own}
use Rattle.tree.specs.Stands.{Within, Stands, StandAll, NamesStand}
use Rattle.tree.proofs.Laws.Within.{front, following, later}
use Rattle.tree.proofs.Laws.Stands.{RecordAt, IdentAt, root, root_count, name_at}

module _ (N : ℕ) (rs : List ℕ) (i : ℕ) where
  -- the node's record is record i
  pub record NodeAt (n : Node) (r : Record) : Type 0 where
    pub here : n.at ≡ i
    pub own : RecordAt N rs i r

  pub record IfParts (n : Node) (a b c : Tree) : Type 0 where
    pub node : NodeAt n (head 3 n 0 0)
    pub test : Stands N rs (i + 1) a
    pub then : Stands N rs (i + 1 + size a) b
    pub otherwise : Stands N rs (i + 1 + size a + size b) c

  pub record LetParts (n : Node) (xs : List Ident) (es : Trees) (b : Tree) : Type 0 where
    pub node : NodeAt n (head 4 n 0 (length xs))
    pub count : (nth rs i).count ≡ length xs
    pub paired : many es ≡ length xs
    pub names : NamesStand N rs (i + 1) xs
    pub inits : StandAll N rs (i + 1 + length xs) es
    pub body : Stands N rs (i + 1 + length xs + sizes es) b

  -- a define or a set!
  pub record NamedParts (f : ℕ) (n : Node) (x : Ident) (b : Tree) : Type 0 where
    pub node : NodeAt n (head f n 0 0)
    pub place : x.at ≡ i + 1
    pub name : IdentAt N rs x
    pub body : Stands N rs (i + 2) b

  pub record LambdaParts (n : Node) (xs : List Ident) (b : Tree) : Type 0 where
    pub node : NodeAt n (head 6 n 0 (length xs))
    pub count : (nth rs i).count ≡ length xs
    pub names : NamesStand N rs (i + 1) xs
    pub body : Stands N rs (i + 1 + length xs) b

  pub record BeginParts (n : Sequence) (es : Trees) : Type 0 where
    pub node : NodeAt (node_in n) (head (form_in n) (node_in n) 0 (many es))
    pub count : (nth rs i).count ≡ many es
    pub children : StandAll N rs (i + 1) es
    pub tested : Tested n (many es)

  pub record CallParts (n : Node) (h : Tree) (es : Trees) : Type 0 where
    pub node : NodeAt n (head 8 n 0 (suc (many es)))
    pub count : (nth rs i).count ≡ suc (many es)
    pub operator : Stands N rs (i + 1) h
    pub operands : StandAll N rs (i + 1 + size h) es

module _ {N : ℕ} {rs : List ℕ} {i : ℕ} where
  pub if_parts : {n : Node} {a b c : Tree} → Stands N rs i (if n a b c) → IfParts N rs i n a b c
  unfolding flat Num own
  if_parts {n} {a} {b} {c} s =
      let w = later s.within in
      let w' = following (flat a) (flat b ++ flat c) (length_flat a) w in
      record {
        node = record { here = s.num.0; own = root s };
        test = record { within = front (flat a) (flat b ++ flat c) w; num = s.num.1 };
        then = record { within = front (flat b) (flat c) w'; num = s.num.2 };
        otherwise = record { within = following (flat b) (flat c) (length_flat b) w'; num = s.num.3 };
      }

  pub let_parts : {n : Node} {xs : List Ident} {es : Trees} {b : Tree} → Stands N rs i (letin n xs es b) → LetParts N rs i n xs es b
  unfolding flat Num own
  let_parts {n} {xs} {es} {b} s =
      let w = later s.within in
      let w' = following (map named xs) (flats es ++ flat b) (length-map xs named) w in
      record {
        node = record { here = s.num.0; own = root s };
        count = root_count s;
        paired = s.num.1;
        names = record { within = front (map named xs) (flats es ++ flat b) w; num = s.num.2 };
        inits = record { within = front (flats es) (flat b) w'; num = s.num.3 };
        body = record { within = following (flats es) (flat b) (length_flats es) w'; num = s.num.4 };
      }

  named_parts : (f : ℕ) {n : Node} {x : Ident} {b : Tree} → n.at ≡ i → RecordAt N rs i (head f n 0 0) → x.at ≡ i + 1 → Num (i + 2) b
      → Within N rs (i + 1) (named x ∷ flat b) → NamedParts N rs i f n x b
  named_parts f {n} {x} {b} e r p m w =
      let two : i + 1 + 1 ≡ i + 2 = omega arith in
      record {
        node = record { here = e; own = r };
        place = p;
        name = name_at p w;
        body = record { within = subst (λ (k : ℕ). Within N rs k (flat b)) two (later w); num = m };
      }

  pub define_parts : {n : Node} {x : Ident} {b : Tree} → Stands N rs i (define n x b) → NamedParts N rs i 5 n x b
  unfolding flat Num own
  define_parts s = named_parts 5 s.num.0 (root s) s.num.1 s.num.2 (later s.within)

  pub set_parts : {n : Node} {x : Ident} {e : Tree} → Stands N rs i (set! n x e) → NamedParts N rs i 9 n x e
  unfolding flat Num own
  set_parts s = named_parts 9 s.num.0 (root s) s.num.1 s.num.2 (later s.within)

  pub lambda_parts : {n : Node} {xs : List Ident} {b : Tree} → Stands N rs i (lambda n xs b) → LambdaParts N rs i n xs b
  unfolding flat Num own
  lambda_parts {n} {xs} {b} s =
      let w = later s.within in
      record {
        node = record { here = s.num.0; own = root s };
        count = root_count s;
        names = record { within = front (map named xs) (flat b) w; num = s.num.1 };
        body = record { within = following (map named xs) (flat b) (length-map xs named) w; num = s.num.2 };
      }

  pub begin_parts : {n : Sequence} {es : Trees} → Stands N rs i (sequence n es) → BeginParts N rs i n es
  unfolding flat Num own
  begin_parts s = record {
    node = record { here = s.num.0; own = root s };
    count = root_count s;
    children = record { within = later s.within; num = s.num.1 };
    tested = s.num.2;
  }

  pub call_parts : {n : Node} {h : Tree} {es : Trees} → Stands N rs i (call n h es) → CallParts N rs i n h es
  unfolding flat Num own
  call_parts {n} {h} {es} s =
      let w = later s.within in
      record {
        node = record { here = s.num.0; own = root s };
        count = root_count s;
        operator = record { within = front (flat h) (flats es) w; num = s.num.1 };
        operands = record { within = following (flat h) (flats es) (length_flat h) w; num = s.num.2 };
      }
