-- K9: what two lists of commands set that are the same but for the operands of T. Table and prices are the same; the candidates are those of the
-- commands that add one. The lists are compared as wholes: between two T commands the candidates do not correspond.
use Prim.Native.Nat.{ℕ, ◌<◌}
use native.Mathlib.Omega.{arith}
use mathlib.Core.Path.{◌≡◌, refl, sym, ap, ap₂, ◌∙◌, subst}
use mathlib.Core.Bool.{Bool, true, false, not, cond}
use mathlib.Core.List.{List, [], ◌∷◌, ◌++◌, map, map-map, append-nil, append_assoc, nil≢cons, cons≢nil}
use lib.Dec.{T}
use lib.ListN.{get_or, length, length-map}
use Rattle.model.specs.Base.{filter}
use Rattle.model.specs.Table.{on_cells}
use Rattle.model.specs.Sets.{Covering}
use Rattle.model.specs.Presence.{values_at}
use Rattle.model.specs.Candidates.{Candidate, candidate_holds, Prices, Basis, covering, weigh, candidate_cost}
use Rattle.model.specs.Commands.{Kind, is, block_of_f}
use Rattle.model.specs.Standing.{Command, term_of, sets_to, set_from}
use Rattle.model.specs.Renumbered.{Renumbering, Renumbers}
use Rattle.model.specs.Reordered.{shown, adds}
use Rattle.model.proofs.RenumberedSets.{FixedFrom}
use Rattle.model.proofs.Orders.{all_shown}
use Rattle.model.proofs.Accepted.{kinds_in, None}

abbrev pub gives_term : Command → Bool
gives_term c = is c.kind Kind.T

-- a command without what the order of the T commands changes
abbrev pub hidden : Command → Command
hidden c = record { kind = c.kind; operands = shown c.kind c.operands }

pub hidden_kinds : (cs ds : List Command) → map hidden cs ≡ map hidden ds → kinds_in cs ≡ kinds_in ds
hidden_kinds cs ds e = sym (same cs) ∙ ap kinds_in e ∙ same ds
  where
    same : (cs : List Command) → kinds_in (map hidden cs) ≡ kinds_in cs
    same [] = refl
    same (c ∷ cs) = ap (λ (ks : List Kind). c.kind ∷ ks) (same cs)

-- a command that is no T is seen whole
pub seen : (c : Command) → T (not (gives_term c)) → hidden c ≡ c
seen c n = ap (λ (os : List ℕ). record { kind = c.kind; operands = os }) (all_shown c.kind c.operands n)

pub all_seen : (cs ds : List Command) → map hidden cs ≡ map hidden ds → None Kind.T (kinds_in cs) → cs ≡ ds
all_seen cs ds e n = sym (same cs n) ∙ e ∙ same ds (subst (None Kind.T) (hidden_kinds cs ds e) n)
  where
    same : (cs : List Command) → None Kind.T (kinds_in cs) → map hidden cs ≡ cs
    same [] n = refl
    same (c ∷ cs) n = ap₂ (λ (d : Command) (ds : List Command). d ∷ ds) (seen c n.0) (same cs n.1)

-- ---- table and prices

pub record SameSetting (b d : Basis) : Type 0 where
  pub table : b.table ≡ d.table
  pub prices : b.prices ≡ d.prices

setting_step : (os us : List ℕ) (k : Kind) → (T (not (is k Kind.T)) → os ≡ us) → (b d : Basis) → SameSetting b d
    → SameSetting (sets_to (record { kind = k; operands = os }) k b) (sets_to (record { kind = k; operands = us }) k d)
unfolding sets_to
setting_step os us Kind.I e b d s = record { table = rw (e tt) refl; prices = refl }
setting_step os us Kind.W e b d s = record { table = s.table; prices = rw (e tt) refl }
setting_step os us Kind.R e b d s = record { table = rw (e tt, s.table) refl; prices = s.prices }
setting_step os us Kind.B e b d s = record { table = rw (e tt, s.table) refl; prices = s.prices }
setting_step os us Kind.T e b d s = record { table = s.table; prices = s.prices }
setting_step os us Kind.F e b d s = record { table = s.table; prices = s.prices }
setting_step os us Kind.P e b d s = record { table = s.table; prices = s.prices }
setting_step os us Kind.A e b d s = record { table = s.table; prices = s.prices }
setting_step os us Kind.D e b d s = record { table = s.table; prices = s.prices }
setting_step os us Kind.G e b d s = s
setting_step os us Kind.L e b d s = s
setting_step os us Kind.«V» e b d s = s
setting_step os us Kind.C e b d s = s
setting_step os us Kind.N e b d s = s
setting_step os us Kind.E e b d s = s
setting_step os us Kind.none e b d s = s

pub same_setting : (cs ds : List Command) → map hidden cs ≡ map hidden ds → (b d : Basis) → SameSetting b d → SameSetting (set_from b cs) (set_from d ds)
same_setting [] [] e b d s = s
same_setting [] (y ∷ ds) e b d s = absurd (nil≢cons e)
same_setting (x ∷ cs) [] e b d s = absurd (cons≢nil e)
same_setting (x ∷ cs) (y ∷ ds) e b d s =
    let first : hidden x ≡ hidden y = cc e in
    let rest : map hidden cs ≡ map hidden ds = cc e in
    let k : x.kind ≡ y.kind = ap (λ (c : Command). c.kind) first in
    let same : T (not (is x.kind Kind.T)) → x.operands ≡ y.operands =
    λ n. ap (λ (c : Command). c.operands) (sym (seen x n) ∙ first ∙ seen y (subst (λ (j : Kind). T (not (is j Kind.T))) k n)) in
    same_setting cs ds rest (sets_to x x.kind b) (sets_to y y.kind d)
    (subst (λ (j : Kind). SameSetting (sets_to x x.kind b) (sets_to (record { kind = j; operands = y.operands }) j d)) k (setting_step x.operands y.operands x.kind same b d s))

-- ---- candidates

abbrev pub adds_one : Command → Bool
adds_one c = adds c.kind

-- the candidate that a command of kind k adds
abbrev added_by : Command → Kind → Candidate
added_by c k = cond (is k Kind.F) (Candidate.block (block_of_f c.operands)) (Candidate.term (term_of c))

abbrev pub candidate_of : Command → Candidate
candidate_of c = added_by c c.kind

-- where nothing sets the candidates anew or takes one out, these are added
keeps_cands : (c : Command) (k : Kind) (b : Basis) → T (not (is k Kind.I)) → T (not (is k Kind.P)) → T (not (is k Kind.D))
    → (sets_to c k b).cands ≡ b.cands ++ cond (adds k) (added_by c k ∷ []) []
unfolding sets_to
keeps_cands c Kind.I b i p d = elim i [ ]
keeps_cands c Kind.P b i p d = elim p [ ]
keeps_cands c Kind.D b i p d = elim d [ ]
keeps_cands c Kind.W b i p d = sym (append-nil b.cands)
keeps_cands c Kind.R b i p d = sym (append-nil b.cands)
keeps_cands c Kind.B b i p d = sym (append-nil b.cands)
keeps_cands c Kind.T b i p d = refl
keeps_cands c Kind.F b i p d = refl
keeps_cands c Kind.A b i p d = refl
keeps_cands c Kind.G b i p d = sym (append-nil b.cands)
keeps_cands c Kind.«V» b i p d = sym (append-nil b.cands)
keeps_cands c Kind.L b i p d = sym (append-nil b.cands)
keeps_cands c Kind.C b i p d = sym (append-nil b.cands)
keeps_cands c Kind.N b i p d = sym (append-nil b.cands)
keeps_cands c Kind.E b i p d = sym (append-nil b.cands)
keeps_cands c Kind.none b i p d = sym (append-nil b.cands)

pub added : (cs : List Command) → None Kind.I (kinds_in cs) → None Kind.P (kinds_in cs) → None Kind.D (kinds_in cs) → (b : Basis) → (set_from b cs).cands ≡ b.cands ++ map candidate_of (filter adds_one cs)
added [] i p d b = sym (append-nil b.cands)
added (c ∷ cs) i p d b =
    added cs i.1 p.1 d.1 (sets_to c c.kind b)
    ∙ ap (λ (ks : List Candidate). ks ++ map candidate_of (filter adds_one cs)) (keeps_cands c c.kind b i.0 p.0 d.0)
    ∙ append_assoc b.cands (cond (adds_one c) (candidate_of c ∷ []) []) (map candidate_of (filter adds_one cs))
    ∙ ap (λ (ks : List Candidate). b.cands ++ ks) (go (adds_one c))
  where
    go : (a : Bool) → cond a (candidate_of c ∷ []) [] ++ map candidate_of (filter adds_one cs) ≡ map candidate_of (cond a (c ∷ filter adds_one cs) (filter adds_one cs))
    go true = refl
    go false = refl

-- ---- coverings

-- the candidates of two lists of commands, each at its new position
module _ (r : Renumbering) (us vs : List Command) where
  abbrev pub MovesTo : Type 1
  MovesTo = (B : Type 0) (f : Command → B) (d : B) (i : ℕ) → i < length us → get_or (map f us) i d ≡ get_or (map f vs) (r.to i) d

  pub moved_renumbers : (b d : Basis) → SameSetting b d → b.cands ≡ map candidate_of us → d.cands ≡ map candidate_of vs → length us ≡ length vs → FixedFrom (length us) r → MovesTo
      → Renumbers r (covering b) (covering d)
  moved_renumbers b d s e f l fixed m = record {
    points = ap on_cells s.table;
    count = count_b ∙ l ∙ sym count_d;
    beyond = λ i h. fixed i (omega (arith, count_b));
    holds = λ x i h.
        by (λ k. candidate_holds k x) b.cands us e false i
        ∙ m Bool (λ c. candidate_holds (candidate_of c) x) false i (omega (arith, count_b))
        ∙ sym (by (λ k. candidate_holds k x) d.cands vs f false (r.to i));
    weight = λ i h.
        by (weigh b) b.cands us e 0 i
        ∙ m ℕ (λ c. weigh b (candidate_of c)) 0 i (omega (arith, count_b))
        ∙ ap (λ (w : Prices). get_or (map (λ c. candidate_cost w (candidate_of c)) vs) (r.to i) 0) s.prices
        ∙ sym (by (weigh d) d.cands vs f 0 (r.to i));
  }
    where
      count_b : length b.cands ≡ length us
      count_b = ap length e ∙ length-map us candidate_of

      count_d : length d.cands ≡ length vs
      count_d = ap length f ∙ length-map vs candidate_of

      by : {B : Type 0} (g : Candidate → B) (ks : List Candidate) (ws : List Command) → ks ≡ map candidate_of ws → (z : B) (i : ℕ) → get_or (map g ks) i z ≡ get_or (map (λ c. g (candidate_of c)) ws) i z
      by g ks ws q z i = ap (λ (ks : List Candidate). get_or (map g ks) i z) q ∙ ap (λ (ys : List _). get_or ys i z) (map-map g candidate_of ws)

-- where nothing moves
pub stay_renumbers : {A X : Type 0} (r : Renumbering) (k : Covering A X) → ((i : ℕ) → r.to i ≡ i) → Renumbers r k k
stay_renumbers r k s = record {
  points = refl;
  count = refl;
  beyond = λ i h. s i;
  holds = λ x i h. ap (λ (j : ℕ). get_or (values_at k.holds k.cands x) j false) (sym (s i));
  weight = λ i h. ap (λ (j : ℕ). get_or (map k.weight k.cands) j 0) (sym (s i));
}
