-- The laws behind the covering matrix: the rows of a problem, reduced, have its covers and its cheapest.
use Prim.Native.Nat.{ℕ, ◌-◌, ◌^◌, ◌≤◌}
use native.Mathlib.Omega.{arith}
use mathlib.Core.Path.{◌≡◌, sym, ap, ◌∙◌, subst, subst⁻¹}
use mathlib.Core.Bool.{Bool}
use mathlib.Core.List.{List, [], ◌∷◌, map}
use lib.ListN.{length, take, replicate, length-take, length-map, length-replicate}
use lib.Seq.{length-take-le}
use lib.Pow.{pow_mono}
use denote.Ref.{MutBor}
use Rattle.model.specs.Base.{bit, below}
use Rattle.model.specs.Table.{Table, Cell, on_cells}
use Rattle.model.specs.Sets.{covers, cover, irredundants, of_rows, row_of, members}
use Rattle.model.specs.Presence.{presence, all_of}
use Rattle.model.specs.Candidates.{Candidate, candidate_holds, Basis, usual, weigh, basis, covering}
use Rattle.model.specs.Commands as model
use Rattle.model.specs.Commands.{basis_of, table_of, prices_of}
use Rattle.model.proofs.Matrix.{row_of_lt, irredundants_same, rows_irredundants, rows_cheapest, rows_coverable, from_length}
use Rattle.model.proofs.Presence.{presence_all}
use Rattle.model.proofs.Pricing.{presence_untouched}
use Rattle.model.specs.Products.{products, has_too_many}
use Rattle.model.proofs.ProductsSame.{rows_products, rows_too_many}
use Rattle.product.specs.declared.TooMany.{TooMany}
use Rattle.product.specs.Outcome.{RowsBelow, MultipliedTo, MultipliedRows}
use Rattle.std.proofs.Common.{Result, MatchResult, IfOk, true, false}
use Rattle.rows.specs.Reduction.{Reduced}
use Rattle.rows.proofs.Same.{reduced_irredundants, reduced_cheapest, reduced_coverable}
use Rattle.rows.specs.Covers.{row_covers}
use Rattle.incidence.specs.Stored.{entry_of, BlocksAt, Stored}
use Rattle.incidence.specs.Rows.{OnBytes, AllRows}
use Rattle.incidence.specs.Presence.{TellsPresence}
use Rattle.incidence.proofs.Uses.{put_front, some_on_table}
use Rattle.problem.specs.declared.Problem.{Problem}
use Rattle.problem.specs.Problems.{Sized, Stocked, Holds}
use Rattle.problem.specs.declared.matrix.Matrix.{Matrix}
use Rattle.problem.proofs.Keeping.{held_count}
use Rattle.problem.specs.Matrix.{PresenceOfAll, RowsOf, CellRows, PutsRows, Prepares, Multiplies}

-- the on bytes of the table that p holds
held_on : (p : Problem) (q : model.Problem) → Sized p → Holds p q → OnBytes (table_of q) p.settings.n p.settings.m p.rows.on
held_on p q z h = record { inputs = sym h.settings.inputs; outputs = sym h.settings.outputs; bytes = λ v l. h.rows.on_bytes v (omega (arith, pow_mono z.inputs)) }

-- the arrays and the sets lent store the candidates that they hold
held_cands : (p : Problem) (held : List ℕ) (q : model.Problem) → Holds p q → BlocksAt q.cands held
    → Stored q.cands (take p.candidates.count p.candidates.terms) p.candidates.blocks held
held_cands p held q h b = record { entries = h.cands.entries.same; which = h.cands.blocks; at = b }

pub covered : (p : Problem) (held : List ℕ) (all : ℕ) (r : Bool) → Sized p → all ≡ 2 ^ p.candidates.count - 1
    → TellsPresence p.rows.on p.settings.n p.settings.m (take p.candidates.count p.candidates.terms) p.candidates.blocks held all r → PresenceOfAll p held r
covered p held all r z e c q h b =
    c (table_of q) q.cands (held_on p q z h) (held_cands p held q h b)
    ∙ ap (presence (covering (basis (table_of q) q.cands))) (e ∙ ap (λ (k : ℕ). 2 ^ k - 1) (held_count p q h))
    ∙ presence_untouched usual (prices_of q) (table_of q) q.cands (all_of (covering (basis_of q)))

-- ---- costs play no part in the listing

costs_apart : (cs ds rows : List ℕ) → length cs ≡ length ds → irredundants (of_rows cs rows) ≡ irredundants (of_rows ds rows)
unfolding cover covers
costs_apart cs ds rows e =
    irredundants_same (of_rows cs rows) (of_rows ds rows) (from_length 0 (length cs) ∙ e ∙ sym (from_length 0 (length ds)))
    (λ s l. ap (λ (n : ℕ). covers bit rows (members (below n) s)) e)

-- ---- the rows

module _ (b : Basis) where
  all_rows : List ℕ
  all_rows = map (row_of candidate_holds b.cands) (on_cells b.table)

  all_costs : List ℕ
  all_costs = map (weigh b) b.cands

  rows_of : (rows out : List ℕ) (r : ℕ) → rows ≡ map (row_of candidate_holds b.cands) (on_cells b.table) → Reduced rows out r → RowsOf b (take r out)
  unfolding all_rows all_costs
  rows_of rows out r e d = record {
    listed = sym (rows_irredundants (covering b)) ∙ reduced_irredundants all_costs all_rows out r d' ∙ costs_apart all_costs
        (replicate (length b.cands) 0) (take r out) (length-map b.cands (weigh b) ∙ sym (length-replicate (length b.cands) 0));
    cheapest = sym (rows_cheapest (covering b)) ∙ reduced_cheapest all_costs all_rows out r d';
    covered = sym (rows_coverable (covering b)) ∙ reduced_coverable all_costs all_rows out r d';
  }
    where
      d' : Reduced (map (row_of candidate_holds b.cands) (on_cells b.table)) out r
      d' = subst (λ (xs : List ℕ). Reduced xs out r) e d

-- a row has members among the candidates alone
rows_small : (n : ℕ) (ks : List Candidate) → length ks ≤ n → (xs : List Cell) → RowsBelow n (map (row_of candidate_holds ks) xs)
rows_small n ks l [] = tt
rows_small n ks l (x ∷ xs) = (omega (arith, row_of_lt candidate_holds ks x, pow_mono l), rows_small n ks l xs)

module _ (p : Problem) (held : List ℕ) (z : Sized p) (old all : List ℕ) (k : ℕ)
    (a : AllRows p.rows.on p.settings.n p.settings.m (take p.candidates.count p.candidates.terms) p.candidates.blocks held old all k) where
  -- of whatever candidates stand there
  small_rows : Stocked p held → RowsBelow p.candidates.count (take k all)
  small_rows s =
      let few : length s.cands ≤ p.candidates.count = omega (arith, length-map s.cands entry_of, ap length s.stored.entries, length-take p.candidates.count p.candidates.terms) in
      let some_table : Table = record { n = p.settings.n; m = p.settings.m; on = p.rows.on; dc = [] } in
      subst⁻¹ (RowsBelow p.candidates.count) (put_front _ old all k (a.put some_table s.cands (some_on_table p.rows.on p.settings.n p.settings.m) s.stored))
      (rows_small p.candidates.count s.cands few (on_cells some_table))

  pub cells_put : length all ≡ 2048 → CellRows p held all k
  cells_put l = record {
    size = l;
    within = a.most;
    small = small_rows;
    rows = λ q h b. put_front _ old all k (a.put (table_of q) q.cands (held_on p q z h) (held_cands p held q h b));
  }

pub prepared : {p : Problem} {held all : List ℕ} {k : ℕ} → CellRows p held all k → (out : List ℕ) (r : ℕ) → length out ≡ 2048 → Reduced (take k all) out r → PutsRows p held out r
prepared {all = all} {k} c out r l d = record {
  size = l;
  within = omega (arith, d.within, c.within, length-take-le k all (omega (arith, c.size, c.within)));
  rows = λ q h b. rows_of (basis_of q) (take k all) out r (c.rows q h b) d;
}

-- the covers of the rows are those of the problem
pub rows_listed : (p : Problem) (q : model.Problem) (rows : List ℕ) (n : ℕ) → Holds p q → RowsOf (basis_of q) rows → n ≡ p.candidates.count → row_covers n rows ≡ irredundants (covering (basis_of q))
unfolding row_covers
rows_listed p q rows n h d m = ap (λ (i : ℕ). irredundants (of_rows (replicate i 0) rows)) (m ∙ held_count p q h) ∙ sym d.listed

-- ---- the matrix

pub prepared_all : (p : Problem) (held : List ℕ) (m : Matrix) (out : List ℕ) → PutsRows p held out m.count → PresenceOfAll p held m.covered → Prepares p held out m
prepared_all p held m out d c =
    record { size = d.size; within = d.within; matrix = λ q h b. record { rows_of = d.rows q h b; told = c q h b ∙ presence_all (covering (basis_of q)) } }

-- ---- the multiplication

-- a row has members among the candidates alone
pub cells_below : {p : Problem} {held out : List ℕ} {k : ℕ} → CellRows p held out k → Stocked p held → RowsBelow p.candidates.count (take k out)
cells_below c = c.small

pub stocked : (p : Problem) (held : List ℕ) (q : model.Problem) → Holds p q → BlocksAt q.cands held → Stocked p held
stocked p held q h b = record { cands = q.cands; stored = held_cands p held q h b }

-- of the rows of the cells, as of the problem itself
pub multiplied : {p : Problem} {held out : List ℕ} {k : ℕ} → CellRows p held out k → (n : ℕ) → n ≡ p.candidates.count → (first second row : MutBor (List ℕ)) (outcome : Result ℕ TooMany)
    → MultipliedRows n (take k out) first second row outcome → Multiplies p held first second row outcome
multiplied {p} {out = out} {k} c n e first second row outcome m q h b = record {
  told = subst (λ (t : Bool). MatchResult outcome (λ i. t ≡ false) (λ f. t ≡ true)) many o.told;
  which = o.which ∙ rw (many, length-map (on_cells (table_of q)) (row_of candidate_holds q.cands));
  size = o.size;
  within = o.within;
  counted = subst (λ (ps : List ℕ). IfOk outcome (λ i. i ≡ length ps)) last o.counted;
  sets = subst (λ (ps : List ℕ). IfOk outcome (λ i. take i row.now ≡ ps)) last o.sets;
}
  where
    zeros : List ℕ
    zeros = replicate n 0

    long : length zeros ≡ length q.cands
    long = length-replicate n 0 ∙ e ∙ held_count p q h

    cells : List ℕ
    cells = map (row_of candidate_holds q.cands) (on_cells (table_of q))

    o : MultipliedTo (of_rows zeros cells) first second row outcome
    o = subst (λ (rows : List ℕ). MultipliedTo (of_rows zeros rows) first second row outcome) (c.rows q h b) m

    many : has_too_many (of_rows zeros cells) ≡ has_too_many (covering (basis_of q))
    many = rows_too_many (covering (basis_of q)) zeros long

    last : products (of_rows zeros cells) ≡ products (covering (basis_of q))
    last = rows_products (covering (basis_of q)) zeros long
