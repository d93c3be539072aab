-- From what the search for a cheap cover says to rivals, and to ranges without a listed set.
use Rattle.std.proofs.Common.{◌≡◌, refl, sym, ap, ◌∙◌, subst, ⊎_elim, true, false, List, ℕ, ◌+◌, ◌-◌, ◌^◌, ◌≤◌, ◌<◌, mod-eq_of_lt, arith, length, take, bit_and, pow_pos, true≢false, Option, Some, None}
use lib.Bits.{and_mask}
use Rattle.bits.specs.Bits.{Part, Minus}
use Rattle.bits.proofs.Digits.{digit_lt, digit_or, digit_ext, digit_of_zero}
use Rattle.bits.proofs.Members.{part_of, and_right}
use Rattle.bits.proofs.Parts.{by_members, part_le, part_self, minus_part}
use Rattle.rows.specs.Covers.{Cover, IrredundantCover, Between}
use Rattle.lister_narrowing.specs.declared.Tight.{Tight}
use Rattle.lister_narrowing.specs.Narrowing.{IrredundantBetween, NoneBetween, Narrowed}
use Rattle.cheapest_bounds.specs.declared.costs.Incumbent.{Incumbent}
use Rattle.cheapest_bounds.specs.Costs.{cost_of, CoverBetween}
use Rattle.cheapest_bounds.proofs.Costing.{cost_none, cost_part}
use Rattle.cheapest.specs.Optimum.{Priced, Attained, Valued, Below}
use Rattle.std.specs.Option.{is_some}
use Rattle.ranges.specs.Listed.{minus, Listed, Ends, Outmeets, Needless}
use Rattle.ranges.specs.Rivals.{Quoted, Mixed, RowsMet, Contest, Rival, Undercuts, Recalled, KnownListed, NoDearer, Decided, NoneListed}
use Rattle.ranges.proofs.Bridge.{transfer}
use Rattle.ranges.proofs.Sums.{less_bits}
use Rattle.ranges.proofs.Outbidding.{rival_law, no_dearer_lem, exchange}
use Rattle.ranges.proofs.Mixing.{mixed_favours}
use Rattle.ranges.proofs.Meeting.{met_outmeets, outmeets_met}

pub quoted_ends : (low high : List ℕ) (unit : ℕ) → Quoted low high unit → Ends (length low) low high
quoted_ends low high unit q = record { lows = refl; highs = q.even; ordered = q.ordered }

-- ---- a search from nothing

pub priced_start : (costs : List ℕ) (limit : ℕ) → length costs ≤ 64 → limit ≤ 4194305 → Priced costs 0 0 limit
priced_start costs limit l le = record { few = l; is = sym (cost_none costs); near = le }

module _ (rows costs : List ℕ) (s free limit : ℕ) (r : Incumbent) (v : Valued rows costs s free (record { cost = limit; set = 0 }) r) where
  pub valued_some : r.cost < limit → Below rows costs s free limit (Some r)
  unfolding Below
  valued_some lt = ⊎_elim
      (λ (e : r ≡ record { cost = limit; set = 0 }). absurd (omega (arith, ap (λ (x : Incumbent). x.cost) e)))
      (λ (e : Attained rows costs s free r × (r.cost < limit)). e)
      v.found

  pub valued_none : limit ≤ r.cost → Below rows costs s free limit None
  unfolding Below
  valued_none le t c = omega (arith, v.least t c)

-- ---- sets of n candidates

module _ (n free : ℕ) (e : free ≡ 2 ^ n - 1) where
  among : (t : ℕ) → Between 0 free t → t < 2 ^ n
  unfolding Between
  among t b =
      let p : Part t free = by_members t free (λ c m. omega (arith, b.1 c m, digit_or c 0 free, digit_of_zero c, digit_lt c free)) in
      omega (arith, part_le t free p, pow_pos n)

  between : (t : ℕ) → t < 2 ^ n → Between 0 free t
  unfolding Between
  between t lt =
      let p : bit_and t free ≡ t = ap (bit_and t) e ∙ and_mask t n ∙ mod-eq_of_lt lt in (
        λ c m. absurd (omega (arith, digit_of_zero c)),
        λ c m. omega (arith, part_of t free p c m, digit_or c 0 free, digit_of_zero c),
      )

below_all : (n all t : ℕ) → all ≡ 2 ^ n - 1 → bit_and t all < 2 ^ n
below_all n all t e = omega (arith, part_le (bit_and t all) all (by_members (bit_and t all) all (λ c m. and_right c t all m)), pow_pos n)

-- ---- the contest

module _ (rows low high : List ℕ) (s free cost : ℕ) (w : List ℕ) (e : free ≡ 2 ^ length low - 1) (m : Mixed low high s free w)
    (c : cost ≡ cost_of low s) where
  pub contest_found : (best : Incumbent) → Below rows w 0 free cost (Some best) → Contest rows low high s (Some best.set)
  unfolding Below Contest CoverBetween
  contest_found best b =
      let a : Attained rows w 0 free best = b.0 in
      let l : best.set < 2 ^ length low = among (length low) free e best.set a.cover.1 in
      (l, a.cover.0, omega (arith, mixed_favours (length low) low high s free w e m best.set l, a.cost_is, b.1))

  pub contest_none : Below rows w 0 free cost None → Contest rows low high s None
  unfolding Below Contest CoverBetween
  contest_none b t lt cover =
      omega (arith, b t (cover, between (length low) free e t lt), mixed_favours (length low) low high s free w e m t lt)

-- nothing costs less than a set that is free of charge
pub rival_free : (rows low high : List ℕ) (s cost : ℕ) → cost ≡ cost_of low s → cost ≡ 0 → Rival rows low high s None
unfolding Rival
rival_free rows low high s cost e z t lt o = omega arith

-- over the rows that s meets
pub contest_rival : (rows low high : List ℕ) (s size r : ℕ) (new : List ℕ) (f : Option ℕ) → RowsMet rows s size r new → r ≤ length new → Contest (take r new) low high s f
    → Rival rows low high s f
unfolding Contest Rival
contest_rival rows low high s size r new (Some t) m le c = (c.0, met_outmeets rows s size r new m le t c.1, c.2)
contest_rival rows low high s size r new None m le c = λ t lt o. c t lt (outmeets_met rows s size r new m le t o)

-- ---- one set

pub minus_less : (a b r : ℕ) → Minus a b r → r ≡ minus a b
unfolding Minus
minus_less a b r d = digit_ext r (minus a b) (λ c. d c ∙ sym (less_bits a b c))

pub undercuts_is : (low high : List ℕ) (t x a b h l : ℕ) → Minus t x a → Minus x t b → h ≡ cost_of high a → l ≡ cost_of low b → h < l → Undercuts low high t x
unfolding Undercuts
undercuts_is low high t x a b h l d e f g lt = omega (arith, ap (cost_of high) (minus_less t x a d), ap (cost_of low) (minus_less x t b e))

pub no_dearer_is : (low high : List ℕ) (x t a b h l : ℕ) (known : Option ℕ) → known ≡ Some t → Minus x t a → Minus t x b → h ≡ cost_of high a → l ≡ cost_of low b → h ≤ l
    → NoDearer low high x known
unfolding NoDearer
no_dearer_is low high x t a b h l known is d e f g le =
    let this : NoDearer low high x (Some t) = omega (arith, ap (cost_of high) (minus_less x t a d), ap (cost_of low) (minus_less t x b e)) in
    subst (NoDearer low high x) (sym is) this

pub recalled_none : (rows low high : List ℕ) (x : ℕ) → Recalled rows low high x None
unfolding Recalled
recalled_none rows low high x = tt

pub recalled_found : (rows low high : List ℕ) (x any all t : ℕ) → all ≡ 2 ^ length low - 1 → t ≡ bit_and any all → Cover rows t → Undercuts low high t x
    → Recalled rows low high x (Some t)
unfolding Recalled
recalled_found rows low high x any all t e f c u = (subst (λ (y : ℕ). y < 2 ^ length low) (sym f) (below_all (length low) all any e), c, u)

pub judged_recalled : (rows low high : List ℕ) (x t : ℕ) → Recalled rows low high x (Some t) → Decided rows low high x (Some t)
unfolding Recalled Decided Undercuts
judged_recalled rows low high x t r h = omega (arith, r.2, no_dearer_lem (length low) rows low high x h t r.0 r.1)

-- L5
pub judged_known : (rows low high : List ℕ) (unit : ℕ) (x : ℕ) (known : Option ℕ) → Quoted low high unit → KnownListed rows low high known → NoDearer low high x known
    → Decided rows low high x None
unfolding KnownListed NoDearer Decided
judged_known rows low high unit x (Some t) q k d = λ l i. transfer (length low) rows low high (quoted_ends low high unit q) x t k l i d
judged_known rows low high unit x None q k d = absurd d

pub known_none : (rows low high : List ℕ) → KnownListed rows low high None
unfolding KnownListed
known_none rows low high = tt

pub judged_rival : (rows low high : List ℕ) (x : ℕ) (f : Option ℕ) → Rival rows low high x f → Decided rows low high x f
unfolding Rival Decided Outmeets Cover
judged_rival rows low high x (Some t) r = λ h. omega (arith, r.2, exchange (length low) rows low high x h x t r.0 (part_self x) r.1)
judged_rival rows low high x None r = λ l i. record { among = l; tight = i; least = λ t lt c. r t lt (λ k b y z. c k b z) }

-- ---- ranges without a listed set

-- a listed set costs no more than t does, by the weights with which t outbids it
outbid : (rows low high : List ℕ) (t r : ℕ) (w : List ℕ) → t < 2 ^ length low → Needless rows t r → Mixed high low t r w
    → (y : ℕ) → Listed (length low) rows low high y → cost_of w y ≤ cost_of high t
outbid rows low high t r w lt needless m y h =
    omega (
      arith,
      m.is y,
      rival_law (length low) rows low high y h t r lt needless,
      cost_part low (minus (bit_and y r) t) (bit_and y r) (minus_part (bit_and y r) t (minus (bit_and y r) t) (less_bits (bit_and y r) t)),
    )

module _ (rows low high : List ℕ) (s free any all t r : ℕ) (w : List ℕ) (cost limit : ℕ) (e : all ≡ 2 ^ length low - 1) (is : t ≡ bit_and any all)
    (needless : Needless rows t r) (m : Mixed high low t r w) (c : cost ≡ cost_of w s) (l : limit ≡ cost_of high t + 1) where
  small : t < 2 ^ length low
  small = subst (λ (x : ℕ). x < 2 ^ length low) (sym is) (below_all (length low) all any e)

  -- s alone costs too much
  pub refuted_dear : limit ≤ cost → NoneListed rows low high s free
  unfolding NoneListed Between
  refuted_dear le y h b = omega (arith, outbid rows low high t r w small needless m y h, cost_part w s y (by_members s y b.0))

  -- every cover there does
  pub refuted_all : (found : Option Incumbent) → Below rows w s free limit found → is_some found ≡ false → NoneListed rows low high s free
  unfolding Below NoneListed CoverBetween IrredundantCover
  refuted_all (Some best) b none = absurd (true≢false none)
  refuted_all None b none = λ y h lies. omega (arith, outbid rows low high t r w small needless m y h, b y (h.tight.0, lies))

-- ---- what can be said of a range

module _ (rows low high : List ℕ) (s free : ℕ) where
  pub barren_empty : NoneBetween rows s free → NoneListed rows low high s free
  unfolding NoneListed NoneBetween IrredundantBetween
  barren_empty none y h b = none y (h.tight, b)

  module _ (g : Tight) (n : Narrowed rows s free g) where
    kept : (y : ℕ) → Listed (length low) rows low high y → Between s free y → Between g.s g.free y
    unfolding IrredundantBetween
    kept y h b = (n.keeps y (h.tight, b)).1

    pub barren_narrowed : NoneListed rows low high g.s g.free → NoneListed rows low high s free
    unfolding NoneListed
    barren_narrowed f y h b = f y h (kept y h b)

    pub barren_rival : (f : Option ℕ) → Rival rows low high g.s f → is_some f ≡ true → NoneListed rows low high s free
    unfolding NoneListed Rival Between
    barren_rival None r some = absurd (true≢false (sym some))
    barren_rival (Some x) r some = λ y h b. omega (arith, r.2, exchange (length low) rows low high y h g.s x r.0 (by_members g.s y (kept y h b).0) r.1)
