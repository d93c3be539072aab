-- The engine's record goes on holding the problem of the definitions, command by command.
use Prim.Native.Nat.{ℕ, zero, suc, ◌+◌, ◌-◌, ◌^◌, ◌≤◌, ◌<◌, max}
use native.Mathlib.Omega.{arith}
use native.Mathlib.Decide.{ℕ_discrete}
use mathlib.Core.Path.{◌≡◌, refl, sym, ap, ◌∙◌, subst, subst⁻¹}
use mathlib.Core.Bool.{false}
use mathlib.Core.List.{List, [], ◌∷◌, ◌++◌, map, map-map, map-id, map-append}
use borrow.Author.Tests.{eq-eqb, ne_eqb}
use lib.Dec.{T, leb, ltb, eqb, nleb→lt}
use lib.Bits.{bit_or}
use lib.ListN.{get_or, length, take, set, replicate, length-map, length-set, length-replicate}
use lib.Pow.{pow_mono}
use lib.Seq.{get_or-set_same, get_or-set_other, get_or-take}
use Rattle.model.specs.Base.{bit, some}
use Rattle.model.specs.declared.Term.{Term}
use Rattle.model.specs.declared.Block.{Block}
use Rattle.model.specs.declared.Prices.{Prices}
use Rattle.model.specs.Primes.{primes}
use Rattle.model.specs.Sets.{row_of}
use Rattle.model.specs.Ranges.{Range, between, fixed}
use Rattle.model.specs.Candidates.{Candidate, terms_alone, usual, term_cost, candidate_cost}
use Rattle.model.specs.Commands as model
use Rattle.model.specs.Commands.{Context, operand, operand_number, range_of_g, operand_prices, Row, table_of, is_query_kind, add_row, add_rows, add_candidate, add_term, add_block, problem_after}
use Rattle.model.specs.Refusals.{row_refusals, rows_refusals}
use Rattle.model.specs.Records.{Weighed}
use Rattle.model.specs.Invariants.{Valid}
use Rattle.model.proofs.Codes.{any_query}
use Rattle.model.proofs.Lists.{zero_at, not_or_l, map_without}
use Rattle.model.proofs.Runs.{NoneApplies}
use Rattle.model.proofs.RowByRow.{rows_split}
use Rattle.model.proofs.Valid.{valid_row}
use Rattle.model.proofs.Records.{weighed_added, weighed_without}
use Rattle.bits.specs.Bits.{removed}
use Rattle.bits.specs.Lists.{Filled}
use Rattle.bits.proofs.Lists.{filled_next, filled_without}
use Rattle.incidence.specs.Stored.{entry_of, is_block}
use Rattle.incidence.proofs.Uses.{which_term, which_block, which_without, which_alone, entries_alone, bit_row}
use Rattle.primes.specs.declared.prime_list.PrimeList.{PrimeList}
use Rattle.problem.specs.declared.TableRows.{TableRows}
use Rattle.problem.specs.declared.Candidates.{Candidates}
use Rattle.problem.specs.declared.Problem.{Problem}
use Rattle.problem.specs.Problems.{no_rows, alone, started_with, no_problem, at_place, with_prices, with_rows, with_candidates, row_put, rows_put, entry_put, term_put, block_put}
use Rattle.problem.specs.Problems.{entries_without, candidate_taken, range_put, WithPrimes, Sized, HoldsRows, HoldsCands, Holds, Reached, ReachedWith}

sized : (p : Problem) (q : model.Problem) → Holds p q → Valid q → Sized p
sized p q h v = record {
  inputs = omega (arith, h.settings.inputs, v.sound.inputs);
  outputs = omega (arith, h.settings.outputs, v.sound.outputs);
  few = omega (arith, h.cands.entries.counted, length-map q.cands entry_of, v.sound.few);
}

pub reached_sized : (p : Problem) → Reached p → Sized p
reached_sized p r = sized p r.problem r.holds r.valid

pub reached_alone : {p : Problem} {held : List ℕ} → ReachedWith p held → Reached p
reached_alone r = record { problem = r.problem; holds = r.holds; valid = r.valid }

-- ---- the weights

-- what a record holds is weighed by the cost rule
pub held_weighed : (p : Problem) (q : model.Problem) → Holds p q → Weighed q
held_weighed p q h = rw (← h.settings.prices) h.cands.weighed

-- terms alone, with what they cost
pub holds_alone : (w : Prices) {terms ts : List Term} {weights : List ℕ} {count : ℕ} → Filled 64 ts terms count → Filled 64 (map (term_cost w) ts) weights count
    → HoldsCands w (alone terms weights count) (terms_alone ts) (map (candidate_cost w) (terms_alone ts)) (map fixed (map (candidate_cost w) (terms_alone ts)))
holds_alone w {terms} {ts} {weights} {count} f g = record {
  entries = subst⁻¹ (λ (us : List Term). Filled 64 us terms count) (entries_alone ts) f;
  weights = beside;
  lows = subst⁻¹ (λ (vs : List ℕ). Filled 64 vs weights count) (map-map (λ r. r.low) fixed ws ∙ map-id ws) beside;
  highs = subst⁻¹ (λ (vs : List ℕ). Filled 64 vs weights count) (map-map (λ r. r.high) fixed ws ∙ map-id ws) beside;
  blocks = sym (which_alone ts);
  weighed = refl;
}
  where
    ws : List ℕ
    ws = map (candidate_cost w) (terms_alone ts)

    beside : Filled 64 (map (candidate_cost w) (terms_alone ts)) weights count
    beside = subst⁻¹ (λ (vs : List ℕ). Filled 64 vs weights count) (map-map (candidate_cost w) Candidate.term ts) g

-- and so each term by itself
module _ (w : Prices) (cs : Candidates) (ks : List Candidate) (ws : List ℕ) (rs : List Range) (h : HoldsCands w cs ks ws rs) where
  weights_of_lem : take cs.count cs.weights ≡ map (candidate_cost w) ks
  weights_of_lem = h.weights.same ∙ h.weighed

  pub weight_at : (i : ℕ) (d : Term) → i < cs.count → bit i cs.blocks ≡ false → get_or cs.weights i 0 ≡ term_cost w (get_or cs.terms i d)
  weight_at i d l n =
      sym (get_or-take cs.count cs.weights i 0 l)
      ∙ ap (λ (us : List ℕ). get_or us i 0) weights_of_lem
      ∙ go ks i (omega (arith, h.entries.counted, length-map ks entry_of)) (sym (bit_row is_block ks 0 i) ∙ ap (bit i) (sym h.blocks) ∙ n)
      ∙ ap (λ (us : List Term). term_cost w (get_or us i d)) (sym h.entries.same)
      ∙ ap (term_cost w) (get_or-take cs.count cs.terms i d l)
    where
      go : (ks : List Candidate) (i : ℕ) → i < length ks → get_or (map (λ k. is_block k 0) ks) i false ≡ false
          → get_or (map (candidate_cost w) ks) i 0 ≡ term_cost w (get_or (map entry_of ks) i d)
      go [] i l n = absurd (omega arith)
      go (Candidate.term t ∷ ks) zero l n = refl
      go (Candidate.block b ∷ ks) zero l n = absurd (subst T n tt)
      go (k ∷ ks) (suc i) l n = go ks i (omega arith) n

-- ---- the start, and I

pub none_given : (v : ℕ) → ltb 0 (get_or (replicate 256 0) v 0) ≡ false
none_given v = rw (zero_at 256 v)

-- no row, whatever the vertices are
holds_none : (k : ℕ) → HoldsRows no_rows (model.empty_rows k)
holds_none k = record {
  on_size = length-replicate {A = ℕ} 256 0;
  dc_size = length-replicate {A = ℕ} 256 0;
  given_size = length-replicate {A = ℕ} 256 0;
  on_bytes = λ v l. zero_at 256 v ∙ sym (zero_at k v);
  dc_bytes = λ v l. zero_at 256 v ∙ sym (zero_at k v);
  given = λ v l. none_given v;
}

holds_started : (n m k place : ℕ) → Holds (started_with n m place) (model.started place n m k)
unfolding started_with
holds_started n m k place = record {
  place = refl;
  settings = record { inputs = refl; outputs = refl; prices = refl };
  rows = holds_none k;
  cands = holds_alone usual {ts = []} (record { size = refl; counted = refl; same = refl }) (record { size = refl; counted = refl; same = refl });
}

pub holds_empty : Holds no_problem model.empty
holds_empty = holds_started 0 0 0 model.at_start

pub after_i : (x : Context) (n m : ℕ) → operand x 0 ≡ n → operand x 1 ≡ m → Holds (started_with n m model.begun) (problem_after x model.Kind.I)
unfolding problem_after
after_i x n m e f = rw (e, f) (holds_started n m (2 ^ n) model.begun)

-- ---- W, before any candidate

pub after_w : (x : Context) (p : Problem) (w : Prices) → Holds p x.problem → x.problem.cands ≡ [] → operand_prices x ≡ w
    → Holds (at_place model.in_prices (with_prices w p)) (problem_after x model.Kind.W)
unfolding problem_after
after_w x p w h none e = record {
  place = refl;
  settings = record { inputs = h.settings.inputs; outputs = h.settings.outputs; prices = sym e };
  rows = h.rows;
  cands = record { entries = h.cands.entries; weights = h.cands.weights; lows = h.cands.lows; highs = h.cands.highs; blocks = h.cands.blocks; weighed = held_weighed p x.problem h ∙ rw none refl };
}

-- ---- R and B

set_both : (xs ys : List ℕ) (k v y w : ℕ) → v < length xs → v < length ys → w < k → ((u : ℕ) → u < k → get_or xs u 0 ≡ get_or ys u 0) → get_or (set xs v y) w 0 ≡ get_or (set ys v y) w 0
set_both xs ys k v y w h g l f = go (ℕ_discrete w v)
  where
    go : Dec (w ≡ v) → get_or (set xs v y) w 0 ≡ get_or (set ys v y) w 0
    go (yes e) = rw e (get_or-set_same xs v y 0 h ∙ sym (get_or-set_same ys v y 0 g))
    go (no d) = get_or-set_other xs v w y 0 d ∙ f w l ∙ sym (get_or-set_other ys v w y 0 d)

given_more : (xs at : List ℕ) (v w : ℕ) → v < length xs → ltb 0 (get_or xs w 0) ≡ some (eqb w) at → ltb 0 (get_or (set xs v 1) w 0) ≡ some (eqb w) (v ∷ at)
given_more xs at v w h e = go (ℕ_discrete w v)
  where
    go : Dec (w ≡ v) → ltb 0 (get_or (set xs v 1) w 0) ≡ some (eqb w) (v ∷ at)
    go (yes q) = rw (eq-eqb w v q) (ap (λ (u : ℕ). ltb 0 (get_or (set xs v 1) u 0)) q ∙ ap (λ (y : ℕ). ltb 0 y) (get_or-set_same xs v 1 0 h))
    go (no d) = rw (ne_eqb w v d) (ap (λ (y : ℕ). ltb 0 y) (get_or-set_other xs v w 1 0 d) ∙ e)

holds_row : (r : TableRows) (t : model.TableRows) (v on dc : ℕ) → HoldsRows r t → v < 256 → v < length t.on → v < length t.dc → HoldsRows (row_put r v on dc) (model.with_row t v on dc)
unfolding row_put
holds_row r t v on dc h l a b = record {
  on_size = length-set r.on v on ∙ h.on_size;
  dc_size = length-set r.dc v dc ∙ h.dc_size;
  given_size = length-set r.given v 1 ∙ h.given_size;
  on_bytes = λ u k. set_both r.on t.on 256 v on u (omega (arith, l, h.on_size)) a k h.on_bytes;
  dc_bytes = λ u k. set_both r.dc t.dc 256 v dc u (omega (arith, l, h.dc_size)) b k h.dc_bytes;
  given = λ u k. given_more r.given t.given v u (omega (arith, l, h.given_size)) (h.given u k);
}

-- the record with a row, and with rows one by one
abbrev pub with_row : Row → Problem → Problem
with_row w p = at_place model.among_rows (with_rows (row_put p.rows w.vertex w.on w.dc) p)

abbrev pub all_rows : ℕ → List Row → Problem → Problem
all_rows place ws p = at_place place (with_rows (rows_put p.rows ws) p)

pub after_row : (p : Problem) (q : model.Problem) (w : Row) → Holds p q → Valid q → model.begun ≤ q.place → w.vertex < 2 ^ q.settings.n → Holds (with_row w p) (add_row q w)
after_row p q w h v o l = record {
  place = refl;
  settings = h.settings;
  rows = holds_row p.rows q.rows w.vertex w.on w.dc h.rows (omega (arith, pow_mono v.sound.inputs)) (omega (arith, (v.rows o).0)) (omega (arith, (v.rows o).1));
  cands = h.cands;
}

-- each row of an R or B that is not refused
pub row_within : (q : model.Problem) (w : Row) → NoneApplies (row_refusals q w) → w.vertex < 2 ^ q.settings.n
row_within q w a =
    let high = leb (2 ^ q.settings.n) w.vertex in
    nleb→lt (2 ^ q.settings.n) w.vertex (not_or_l high (some (eqb w.vertex) q.rows.given) a.0)

pub after_rows : (ws : List Row) (p : Problem) (q : model.Problem) → Holds p q → Valid q → model.begun ≤ q.place → q.place ≤ model.among_rows → NoneApplies (rows_refusals q ws)
    → Holds (all_rows (add_rows q ws).place ws p) (add_rows q ws)
after_rows [] p q h v o m a = record { place = refl; settings = h.settings; rows = h.rows; cands = h.cands }
after_rows (w ∷ ws) p q h v o m a =
    let first = rows_split w ws q a in
    after_rows ws (with_row w p) (add_row q w) (after_row p q w h v o (row_within q w first.0)) (valid_row q w o m first.0 v) (omega arith) (omega arith) first.1

-- ---- other candidates: T, F and A, P, D

holds_candidates : (place : ℕ) (p : Problem) (q : model.Problem) (cs : Candidates) (ks : List Candidate) (ws : List ℕ) (rs : List Range) → Holds p q
    → HoldsCands p.settings.prices cs ks ws rs → Holds (at_place place (with_candidates cs p)) (model.at_place place (model.with_cands ks ws rs q))
holds_candidates place p q cs ks ws rs h c = record { place = refl; settings = h.settings; rows = h.rows; cands = c }

-- one candidate more, with its entry and its cost
after_more : (p : Problem) (q : model.Problem) (c : Candidate) (blocks : ℕ) → Holds p q → p.candidates.count < 64 → blocks ≡ row_of is_block (q.cands ++ (c ∷ [])) 0
    → Holds (at_place (max p.place model.in_candidates) (with_candidates (entry_put p.candidates (entry_of c) (candidate_cost p.settings.prices c) blocks) p)) (add_candidate q c)
unfolding entry_put
after_more p q c blocks h l e =
    let w = p.settings.prices in
    let cs = p.candidates in
    let ks = q.cands ++ (c ∷ []) in
    let place = max q.place model.in_candidates in
    let new = entry_put cs (entry_of c) (candidate_cost w c) blocks in
    let beside : HoldsCands w new ks (q.weights ++ (candidate_cost w c ∷ [])) (q.ranges ++ (fixed (candidate_cost w c) ∷ [])) = record {
      entries = subst⁻¹ (λ (ts : List Term). Filled 64 ts (set cs.terms cs.count (entry_of c)) (cs.count + 1)) (map-append entry_of q.cands (c ∷ []))
          (filled_next 64 cs.terms cs.count (map entry_of q.cands) (entry_of c) h.cands.entries l);
      weights = filled_next 64 cs.weights cs.count q.weights (candidate_cost w c) h.cands.weights l;
      lows = subst⁻¹ (λ (vs : List ℕ). Filled 64 vs (set cs.lows cs.count (candidate_cost w c)) (cs.count + 1)) (map-append (λ r. r.low) q.ranges (fixed (candidate_cost w c) ∷ []))
          (filled_next 64 cs.lows cs.count (map (λ r. r.low) q.ranges) (candidate_cost w c) h.cands.lows l);
      highs = subst⁻¹ (λ (vs : List ℕ). Filled 64 vs (set cs.highs cs.count (candidate_cost w c)) (cs.count + 1)) (map-append (λ r. r.high) q.ranges (fixed (candidate_cost w c) ∷ []))
          (filled_next 64 cs.highs cs.count (map (λ r. r.high) q.ranges) (candidate_cost w c) h.cands.highs l);
      blocks = e;
      weighed = subst⁻¹ (λ (v : Prices). q.weights ++ (candidate_cost v c ∷ []) ≡ map (candidate_cost v) ks) h.settings.prices (weighed_added q c (held_weighed p q h));
    } in
    rw h.place
    (subst (λ (v : Prices). Holds (at_place place (with_candidates new p)) (model.at_place place (model.with_cands ks (q.weights ++ (candidate_cost v c ∷ [])) (q.ranges ++ (fixed (candidate_cost v c) ∷ [])) q)))
    h.settings.prices (holds_candidates place p q new ks _ _ h beside))

pub after_term : (p : Problem) (q : model.Problem) (t : Term) → Holds p q → p.candidates.count < 64
    → Holds (at_place (max p.place model.in_candidates) (with_candidates (term_put p.settings.prices p.candidates t) p)) (add_term q t)
after_term p q t h l = after_more p q (Candidate.term t) p.candidates.blocks h l (h.cands.blocks ∙ sym (which_term q.cands t))

-- how many candidates there are
pub held_count : (p : Problem) (q : model.Problem) → Holds p q → p.candidates.count ≡ length q.cands
held_count p q h = h.cands.entries.counted ∙ length-map q.cands entry_of

pub after_block : (p : Problem) (q : model.Problem) (b : Block) → Holds p q → p.candidates.count < 64
    → Holds (at_place (max p.place model.in_candidates) (with_candidates (block_put p.candidates b) p)) (add_block q b)
after_block p q b h l =
    let k = p.candidates.count in
    after_more p q (Candidate.block b) (bit_or p.candidates.blocks (2 ^ k)) h l
    (ap (λ (s : ℕ). bit_or s (2 ^ k)) h.cands.blocks ∙ sym (which_block q.cands b k (sym (held_count p q h))))

pub after_p : (x : Context) (p : Problem) (list : PrimeList) (r : Problem) → Holds p x.problem → Filled 64 (primes (table_of x.problem)) list.terms list.count → WithPrimes p list r
    → Holds r (problem_after x model.Kind.P)
unfolding problem_after
after_p x p list r h f w =
    let ts = primes (table_of x.problem) in
    let ks = terms_alone ts in
    let cost = term_cost p.settings.prices in
    let cs = alone list.terms r.candidates.weights list.count in
    let beside = holds_alone p.settings.prices f (subst (λ (us : List Term). Filled 64 (map cost us) r.candidates.weights list.count) f.same w.weights) in
    subst⁻¹ (λ (y : Problem). Holds y (problem_after x model.Kind.P)) w.is
    (subst (λ (v : Prices). Holds (at_place model.queried (with_candidates cs p)) (model.at_place model.queried (model.with_cands ks (map (candidate_cost v) ks) (map fixed (map (candidate_cost v) ks)) x.problem)))
    h.settings.prices (holds_candidates model.queried p x.problem cs ks _ _ h beside))

pub after_d : (x : Context) (p : Problem) (k : ℕ) → Holds p x.problem → operand_number x ≡ k → k < p.candidates.count → p.candidates.count ≤ 64
    → Holds (with_candidates (candidate_taken p.candidates k) p) (problem_after x model.Kind.D)
unfolding problem_after entries_without
after_d x p k h e l m =
    let q = x.problem in
    let cs = p.candidates in
    rw e record {
      place = h.place;
      settings = h.settings;
      rows = h.rows;
      cands = record {
        entries = subst⁻¹ (λ (ts : List Term). Filled 64 ts (entries_without k cs.count cs.terms) (cs.count - 1)) (map_without entry_of k q.cands)
            (filled_without 64 cs.terms cs.count (map entry_of q.cands) k h.cands.entries l m);
        weights = filled_without 64 cs.weights cs.count q.weights k h.cands.weights l m;
        lows = subst⁻¹ (λ (vs : List ℕ). Filled 64 vs (entries_without k cs.count cs.lows) (cs.count - 1)) (map_without (λ r. r.low) k q.ranges)
            (filled_without 64 cs.lows cs.count (map (λ r. r.low) q.ranges) k h.cands.lows l m);
        highs = subst⁻¹ (λ (vs : List ℕ). Filled 64 vs (entries_without k cs.count cs.highs) (cs.count - 1)) (map_without (λ r. r.high) k q.ranges)
            (filled_without 64 cs.highs cs.count (map (λ r. r.high) q.ranges) k h.cands.highs l m);
        blocks = ap (removed k) h.cands.blocks ∙ sym (which_without k q.cands (omega (arith, held_count p q h)));
        weighed = rw h.settings.prices (weighed_without q k (held_weighed p q h));
      };
    }

-- ---- G

take_set : (xs : List ℕ) (n k y : ℕ) → take n (set xs k y) ≡ set (take n xs) k y
take_set [] zero k y = refl
take_set [] (suc n) k y = refl
take_set (x ∷ xs) zero k y = refl
take_set (x ∷ xs) (suc n) zero y = refl
take_set (x ∷ xs) (suc n) (suc k) y = ap (λ (zs : List ℕ). x ∷ zs) (take_set xs n k y)

-- one entry in front of an array
filled_put : (cap : ℕ) (xs array : List ℕ) (count k y : ℕ) → Filled cap xs array count → k < count → Filled cap (set xs k y) (set array k y) count
filled_put cap xs array count k y f l = record {
  size = length-set array k y ∙ f.size;
  counted = f.counted ∙ sym (length-set xs k y);
  same = take_set array count k y ∙ ap (λ (zs : List ℕ). set zs k y) f.same;
}

map_set : (f : Range → ℕ) (rs : List Range) (k : ℕ) (r : Range) → map f (set rs k r) ≡ set (map f rs) k (f r)
map_set f [] k r = refl
map_set f (x ∷ rs) zero r = refl
map_set f (x ∷ rs) (suc k) r = ap (λ (zs : List ℕ). f x ∷ zs) (map_set f rs k r)

pub after_g : (x : Context) (p : Problem) (k low high : ℕ) → Holds p x.problem → operand_number x ≡ k → range_of_g x.rest ≡ between low high → k < p.candidates.count
    → Holds (at_place model.queried (with_candidates (range_put p.candidates k low high) p)) (problem_after x model.Kind.G)
unfolding problem_after
after_g x p k low high h e g l =
    let q = x.problem in
    let cs = p.candidates in
    let rs = q.ranges in
    let put : (f : Range → ℕ) (array : List ℕ) (y : ℕ) → Filled 64 (map f rs) array cs.count → f (between low high) ≡ y → Filled 64 (map f (set rs k (between low high))) (set array k y) cs.count =
    λ f array y a b. subst⁻¹ (λ (vs : List ℕ). Filled 64 vs (set array k y) cs.count) (map_set f rs k (between low high) ∙ ap (set (map f rs) k) b) (filled_put 64 (map f rs) array cs.count k y a l) in
    rw (e, g) (holds_candidates model.queried p q (range_put cs k low high) q.cands q.weights (set rs k (between low high)) h
    record {
      entries = h.cands.entries;
      weights = h.cands.weights;
      lows = put (λ r. r.low) cs.lows low h.cands.lows refl;
      highs = put (λ r. r.high) cs.highs high h.cands.highs refl;
      blocks = h.cands.blocks;
      weighed = h.cands.weighed;
    })

-- ---- queries

pub after_query : (x : Context) (p : Problem) (k : model.Kind) → T (is_query_kind k) → Holds p x.problem → Holds (at_place model.queried p) (problem_after x k)
unfolding problem_after
after_query x p k t h = any_query (λ k. Holds (at_place model.queried p) (problem_after x k)) (kept, (kept, (kept, (kept, tt)))) k t
  where
    kept : Holds (at_place model.queried p) (model.at_place model.queried x.problem)
    kept = holds_candidates model.queried p x.problem p.candidates x.problem.cands x.problem.weights x.problem.ranges h h.cands
