-- The laws of the cost of a set: of two sets apart, of a part, of one member.
use Rattle.std.proofs.Common.{◌≡◌, refl, sym, ap, ◌∙◌, subst, ⊎_elim, List, [], ◌∷◌, ℕ, zero, suc, ◌+◌, ◌-◌, ◌*◌, ◌/◌, ◌%◌, ◌^◌, ◌≤◌, ◌<◌, min, max, pow-suc, add-mul, one-mul, zero-mul, mul-le-mul, arith, length, get_or, bit_and, bit_or, bit_xor}
use mir.Syntax.{w16}
use mir.Val.{Fits}
use lib.Bits.{and_step, or_step}
use Rattle.bits.specs.Bits.{digit, Part, Minus, Member}
use Rattle.cheapest_bounds.specs.Costs.{cost_of, no_cost, Price, Floor}
use Rattle.bits.proofs.Digits.{eq?, digit_lt, digit_and, digit_or, digit_ext, a_member, pow_only}
use Rattle.bits.proofs.Parts.{members, by_members, minus_bits, part_self, part_or_left, part_and_left, apart_by}

pub cost_none : (ws : List ℕ) → cost_of ws 0 ≡ 0
unfolding cost_of
cost_none [] = refl
cost_none (w ∷ ws) = omega (arith, cost_none ws, zero-mul w)

-- sets apart add up
pub cost_join : (ws : List ℕ) (a b : ℕ) → bit_and a b ≡ 0 → cost_of ws (bit_or a b) ≡ cost_of ws a + cost_of ws b
unfolding cost_of
cost_join [] a b z = refl
cost_join (w ∷ ws) a b z =
    let s : bit_and a b ≡ bit_and (a / 2) (b / 2) * 2 + min (a % 2) (b % 2) = and_step a b in
    let o : bit_or a b ≡ bit_or (a / 2) (b / 2) * 2 + max (a % 2) (b % 2) = or_step a b in
    let low : bit_or a b % 2 ≡ a % 2 + b % 2 = omega arith in
    let high : bit_or a b / 2 ≡ bit_or (a / 2) (b / 2) = omega arith in
    let rest : cost_of ws (bit_or (a / 2) (b / 2)) ≡ cost_of ws (a / 2) + cost_of ws (b / 2) = cost_join ws (a / 2) (b / 2) (omega arith) in
    omega (arith, ap (λ (x : ℕ). x * w) low, add-mul (a % 2) (b % 2) w, ap (cost_of ws) high)

-- a set is a part and the rest
pub cost_apart : (ws : List ℕ) (t m r : ℕ) → Part m t → Minus t m r → cost_of ws t ≡ cost_of ws m + cost_of ws r
unfolding Minus
cost_apart ws t m r p d =
    let whole : bit_or m r ≡ t = digit_ext (bit_or m r) t (λ c. ⊎_elim
    (λ (e : digit c m ≡ 1). omega (arith, members m t p c e, d c, digit_or c m r))
    (λ (e : digit c m ≡ 1 → ⊥). omega (arith, d c, digit_or c m r, digit_lt c m, digit_lt c t))
    (eq? (digit c m) 1)) in
    let apart : bit_and m r ≡ 0 = apart_by m r (λ c p' q. omega (arith, d c, digit_lt c t)) in
    ap (cost_of ws) (sym whole) ∙ cost_join ws m r apart

-- so a part costs no more
pub cost_part : (ws : List ℕ) (a t : ℕ) → Part a t → cost_of ws a ≤ cost_of ws t
cost_part ws a t p = omega (arith, cost_apart ws t a (bit_xor t (bit_and t a)) p (minus_bits t a))

-- one member's cost
pub cost_one : (ws : List ℕ) (b : ℕ) → cost_of ws (2 ^ b) ≡ get_or ws b 0
unfolding cost_of
cost_one [] b = refl
cost_one (w ∷ ws) zero = omega (arith, one-mul w, cost_none ws)
cost_one (w ∷ ws) (suc b) =
    let e : 2 ^ suc b ≡ 2 ^ b * 2 = pow-suc 2 b in
    let even : 2 ^ suc b % 2 ≡ 0 = omega arith in
    let half : 2 ^ suc b / 2 ≡ 2 ^ b = omega arith in
    omega (arith, ap (λ (x : ℕ). x * w) even, zero-mul w, ap (cost_of ws) half, cost_one ws b)

-- a list of 16-bit numbers, as the code tells it
pub small_entries : (ws : List ℕ) → ((k : ℕ) → Fits w16 (get_or ws k 0)) → (k : ℕ) → get_or ws k 0 < 65536
small_entries ws h k = omega (arith, h k)

-- costs below 65536 make at most 65535 for each
pub cost_small : (ws : List ℕ) (s : ℕ) → ((k : ℕ) → get_or ws k 0 < 65536) → cost_of ws s ≤ 65535 * length ws
unfolding cost_of
cost_small [] s h = omega arith
cost_small (w ∷ ws) s h =
    let first : w < 65536 = h 0 in
    ⊎_elim
    (λ (e : s % 2 ≡ 0). omega (arith, ap (λ (x : ℕ). x * w) e, zero-mul w, cost_small ws (s / 2) (λ k. h (suc k))))
    (λ (e : s % 2 ≡ 0 → ⊥).
    let o : s % 2 ≡ 1 = omega arith in
    omega (arith, ap (λ (x : ℕ). x * w) o, one-mul w, cost_small ws (s / 2) (λ k. h (suc k))))
    (eq? (s % 2) 0)

-- a set with a member of x costs no less than the floor of x
pub cost_floor : (ws : List ℕ) (x r y : ℕ) → Floor ws x r → Part y x → (y ≡ 0 → ⊥) → r ≤ cost_of ws y
cost_floor ws x r y f p n =
    let m : (b : ℕ) × (digit b y ≡ 1) = a_member y n in
    let b : ℕ = m.0 in
    let one : Part (2 ^ b) y = by_members (2 ^ b) y (λ c h. subst (λ (j : ℕ). digit j y ≡ 1) (sym (pow_only c b h)) m.1) in
    omega (arith, f.under b (members y x p b m.1), cost_part ws (2 ^ b) y one)

-- what two sets cost, they cost together and in common
pub cost_modular : (ws : List ℕ) (x y : ℕ) → cost_of ws (bit_or x y) + cost_of ws (bit_and x y) ≡ cost_of ws x + cost_of ws y
unfolding Minus
cost_modular ws x y =
    let d : ℕ = bit_xor y (bit_and y x) in
    let m : (c : ℕ) → digit c d ≡ digit c y - digit c x = minus_bits y x in
    omega (
      arith,
      cost_apart ws (bit_or x y) x d (part_or_left x x y (part_self x)) (λ c. omega (arith, m c, digit_or c x y, digit_lt c x, digit_lt c y)),
      cost_apart ws y (bit_and x y) d (part_and_left x y) (λ c. omega (arith, m c, digit_and c x y, digit_lt c x, digit_lt c y)),
    )

-- so together no more than apart
pub cost_either : (ws : List ℕ) (x y : ℕ) → cost_of ws (bit_or x y) ≤ cost_of ws x + cost_of ws y
cost_either ws x y = omega (arith, cost_modular ws x y)

-- ---- a sum over the members

-- the members still to count, and the sum so far
pub totalled : (ws : List ℕ) (x rest m r sum p : ℕ) → Member rest m → Minus rest m r → Price ws m p
    → cost_of ws x ≡ sum + cost_of ws rest → cost_of ws x ≡ sum + p + cost_of ws r
totalled ws x rest m r sum p one d pr e = omega (arith, cost_apart ws rest m r one.part d, pr.is)

-- a sum so far, and one more, fit
pub total_fits : (ws : List ℕ) (x rest sum : ℕ) → length ws ≤ 64 → ((k : ℕ) → get_or ws k 0 < 65536) → cost_of ws x ≡ sum + cost_of ws rest → sum < no_cost
total_fits ws x rest sum l lt e = omega (arith, cost_small ws x lt)

pub total_all : (ws : List ℕ) (x rest sum : ℕ) → rest ≡ 0 → cost_of ws x ≡ sum + cost_of ws rest → sum ≡ cost_of ws x
total_all ws x rest sum z e = omega (arith, ap (cost_of ws) z, cost_none ws)

-- a count and a cost have a product that fits
pub product_fits : (g p : ℕ) → g < 65536 → p < 65536 → g * p < 4294967296
product_fits g p a b =
    let le : g ≤ 65535 = omega arith in
    let le' : p ≤ 65535 = omega arith in
    let x : g * p ≤ 65535 * 65535 = mul-le-mul le le' in
    omega arith

-- a set's cost fits, and sums of a few
pub cost_fits : (costs : List ℕ) (s cost : ℕ) → length costs ≤ 64 → ((k : ℕ) → get_or costs k 0 < 65536) → cost ≡ cost_of costs s → cost < no_cost
cost_fits costs s cost l lt e = omega (arith, cost_small costs s lt)
