-- K9: at each L, V, C and N of two accepted jobs that differ in the order of their T commands, the candidates correspond by position.
use Prim.Native.Nat.{ℕ, zero, suc, ◌≤◌, ◌<◌, max}
use native.Mathlib.Omega.{arith}
use mathlib.Core.Path.{◌≡◌, refl, sym, ap, ◌∙◌, subst}
use mathlib.Core.Logic.{◌⊎◌, inl, inr}
use mathlib.Core.Bool.{Bool, false, not}
use mathlib.Core.List.{List, [], ◌∷◌, ◌++◌, map, map-map, map-append}
use lib.Dec.{T}
use lib.ListN.{get_or, get_elem?, length, length-map, get_or-append}
use Rattle.model.specs.Base.{every, filter, All}
use Rattle.model.specs.Candidates.{covering}
use Rattle.model.specs.Commands.{at_start, Kind, is, empty, basis_of}
use Rattle.model.specs.Standing.{Command, sets_to, standing, raises}
use Rattle.model.specs.Pieces.{Piece, piece_kind, pieces}
use Rattle.model.specs.Renumbered.{Renumbering, Renumbers, SameCovers}
use Rattle.model.specs.Reordered.{holds_no_d, masked, outline, adding, Reordered}
use Rattle.model.proofs.Lists.{T_false, and_l, and_r, filter_append, filter_map, at_entry, get_d_at_entry, all_left, all_filter, map_all}
use Rattle.model.proofs.RenumberedSets.{FixedFrom, to_lt}
use Rattle.model.proofs.Renumbered.{same_covers}
use Rattle.model.proofs.Accepted.{command_in, Orderly, kinds_in, None, terms_or_primes, first_is_i}
use Rattle.model.proofs.Outlines.{gives_term, hidden, hidden_kinds, all_seen, SameSetting, same_setting, adds_one, candidate_of, added, MovesTo, moved_renumbers, stay_renumbers}

-- the commands that a job is cut into
abbrev pub cut : List ℕ → List Command
cut job = map command_in (pieces job)

pub none_d : (job : List ℕ) → T (holds_no_d job) → None Kind.D (kinds_in (cut job))
unfolding holds_no_d
none_d job h = go (pieces job) h
  where
    go : (ps : List Piece) → T (every (λ c. not (is (piece_kind c) Kind.D)) ps) → None Kind.D (kinds_in (map command_in ps))
    go [] h = tt
    go (p ∷ ps) h =
        let q = not (is (piece_kind p) Kind.D) in
        let rest = every (λ c. not (is (piece_kind c) Kind.D)) ps in
        (and_l q rest h, go ps (and_r q rest h))

-- ---- the candidates that the commands before a query add

orderly_left : (p : ℕ) (ks js : List Kind) → Orderly p (ks ++ js) → Orderly p ks
orderly_left p [] js o = tt
orderly_left p (k ∷ ks) js o = (o.0, orderly_left (max (raises k) p) ks js o.1)

-- without P and D: those of T, F and A, as they came
pub stand_added : (cs : List Command) → Orderly at_start (kinds_in cs) → None Kind.P (kinds_in cs) → None Kind.D (kinds_in cs) → (standing cs).cands ≡ map candidate_of (filter adds_one cs)
unfolding sets_to
stand_added [] o p d = refl
stand_added (c ∷ cs) o p d =
    let first = first_is_i c.kind (kinds_in cs) o in
    added cs first.1 p.1 d.1 (sets_to c c.kind (basis_of empty)) ∙ rw first.0 refl

-- where there is no T in the second of two lists, there is none behind the first
no_t_behind : (us vs : List Command) (i : ℕ) → All (λ c. T (not (gives_term c))) vs → length us ≤ i → get_or (map gives_term (us ++ vs)) i false ≡ false
no_t_behind [] [] i n l = refl
no_t_behind [] (v ∷ vs) zero n l = T_false {b = gives_term v} n.0
no_t_behind [] (v ∷ vs) (suc i) n l = no_t_behind [] vs i n.1 (omega arith)
no_t_behind (u ∷ us) vs zero n l = absurd (omega arith)
no_t_behind (u ∷ us) vs (suc i) n l = no_t_behind us vs i n (omega arith)

-- ---- two jobs

-- the commands of a job with the operands of T hidden are its outline
hidden_cut : (ps : List Piece) → map hidden (map command_in ps) ≡ map command_in (map masked ps)
hidden_cut [] = refl
hidden_cut (p ∷ ps) = ap (λ (cs : List Command). command_in (masked p) ∷ cs) (hidden_cut ps)

pub same_outline : (a b : List ℕ) → outline a ≡ outline b → map hidden (cut a) ≡ map hidden (cut b)
unfolding outline
same_outline a b e = hidden_cut (pieces a) ∙ ap (map command_in) e ∙ sym (hidden_cut (pieces b))

-- the lists of those that add a candidate are as long
as_many_added : (cs ds : List Command) → map hidden cs ≡ map hidden ds → length (filter adds_one cs) ≡ length (filter adds_one ds)
as_many_added cs ds e = sym (seen cs) ∙ ap (λ (es : List Command). length (filter adds_one es)) e ∙ seen ds
  where
    seen : (cs : List Command) → length (filter adds_one (map hidden cs)) ≡ length (filter adds_one cs)
    seen cs = ap length (filter_map adds_one hidden cs) ∙ length-map (filter adds_one cs) hidden

module _ (r : Renumbering) (a b : List ℕ) (h : Reordered r a b) where
  added_in : (job : List ℕ) → filter adds_one (cut job) ≡ map command_in (adding job)
  unfolding adding
  added_in job = filter_map adds_one command_in (pieces job)

  -- all that add a candidate, each at its new position
  entry_there : (B : Type 0) (f : Command → B) (d : B) (i : ℕ) → get_or (map f (filter adds_one (cut a))) i d ≡ get_or (map f (filter adds_one (cut b))) (r.to i) d
  entry_there B f d i = at a i ∙ ap (at_entry (λ c. f (command_in c)) d) (h.moved i) ∙ sym (at b (r.to i))
    where
      at : (job : List ℕ) (j : ℕ) → get_or (map f (filter adds_one (cut job))) j d ≡ at_entry (λ c. f (command_in c)) d (get_elem? (adding job) j)
      at job j =
          ap (λ (cs : List Command). get_or (map f cs) j d) (added_in job)
          ∙ ap (λ (ys : List B). get_or ys j d) (map-map f command_in (adding job))
          ∙ get_d_at_entry (λ c. f (command_in c)) d (adding job) j

  -- only a T moves
  stays_there : (i : ℕ) → get_or (map gives_term (filter adds_one (cut a))) i false ≡ false → r.to i ≡ i
  stays_there i e =
      h.stays i
      (ap (λ (bs : List Bool). get_or bs i false) (sym (map-map gives_term command_in (adding a))) ∙ ap (λ (cs : List Command). get_or (map gives_term cs) i false) (sym (added_in a)) ∙ e)

  module _ (cs rest ds rest' : List Command) (split : cut a ≡ cs ++ rest) (split' : cut b ≡ ds ++ rest') (same : map hidden cs ≡ map hidden ds) (no_t : None Kind.T (kinds_in rest)) where
    abbrev us : List Command
    us = filter adds_one cs

    abbrev vs : List Command
    vs = filter adds_one ds

    -- those that these commands add, and those of the rest
    parts : filter adds_one (cut a) ≡ us ++ filter adds_one rest
    parts = ap (filter adds_one) split ∙ filter_append adds_one cs rest

    parts' : filter adds_one (cut b) ≡ vs ++ filter adds_one rest'
    parts' = ap (filter adds_one) split' ∙ filter_append adds_one ds rest'

    fixed : FixedFrom (length us) r
    fixed i l = stays_there i (ap (λ (es : List Command). get_or (map gives_term es) i false) parts
        ∙ no_t_behind us (filter adds_one rest) i (all_filter (λ c. T (not (gives_term c))) adds_one rest (map_all (λ k. T (not (is k Kind.T))) (λ c. c.kind) rest no_t)) l)

    moves : MovesTo r us vs
    moves B f d i l =
        sym (front us (filter adds_one rest) i l)
        ∙ ap (λ (es : List Command). get_or (map f es) i d) (sym parts)
        ∙ entry_there B f d i
        ∙ ap (λ (es : List Command). get_or (map f es) (r.to i) d) parts'
        ∙ front vs (filter adds_one rest') (r.to i) (omega (arith, to_lt (length us) r fixed i l, as_many_added cs ds same))
      where
        front : (xs ys : List Command) (j : ℕ) → j < length xs → get_or (map f (xs ++ ys)) j d ≡ get_or (map f xs) j d
        front xs ys j l = ap (λ (zs : List B). get_or zs j d) (map-append f xs ys) ∙ get_or-append (map f xs) (map f ys) d j (omega (arith, length-map xs f))

  -- what two commands find that stand behind the same but for the operands of T, from which on there is no T
  module _ (cs rest ds rest' : List Command) (split : cut a ≡ cs ++ rest) (split' : cut b ≡ ds ++ rest') (same : map hidden cs ≡ map hidden ds) (no_t : None Kind.T (kinds_in rest))
      (orderly : Orderly at_start (kinds_in (cut a))) (no_d : None Kind.D (kinds_in (cut a))) where
    kinds : kinds_in (cut a) ≡ kinds_in cs ++ kinds_in rest
    kinds = ap kinds_in split ∙ map-append (λ c. c.kind) cs rest

    before : (k : Kind) → None k (kinds_in (cut a)) → None k (kinds_in cs)
    before k n = all_left (λ x. T (not (is x k))) (kinds_in cs) (kinds_in rest) (subst (None k) kinds n)

    in_order : Orderly at_start (kinds_in cs)
    in_order = orderly_left at_start (kinds_in cs) (kinds_in rest) (subst (Orderly at_start) kinds orderly)

    setting : SameSetting (standing cs) (standing ds)
    setting = same_setting cs ds same (basis_of empty) (basis_of empty) (record { table = refl; prices = refl })

    pub covers_behind : SameCovers r (covering (standing cs)) (covering (standing ds))
    covers_behind = go (terms_or_primes at_start (kinds_in (cut a)) orderly)
      where
        go : None Kind.T (kinds_in (cut a)) ⊎ None Kind.P (kinds_in (cut a)) → SameCovers r (covering (standing cs)) (covering (standing ds))
        go (inl no_t) = same_covers r (covering (standing cs)) (covering (standing ds))
            (subst (λ (es : List Command). Renumbers r (covering (standing cs)) (covering (standing es))) (all_seen cs ds same (before Kind.T no_t))
            (stay_renumbers r (covering (standing cs)) (λ i. fixed [] (cut a) [] (cut b) refl refl refl no_t i (omega arith))))
        go (inr no_p) =
            let k : kinds_in cs ≡ kinds_in ds = hidden_kinds cs ds same in
            same_covers r (covering (standing cs)) (covering (standing ds))
            (moved_renumbers r (filter adds_one cs) (filter adds_one ds) (standing cs) (standing ds) setting
            (stand_added cs in_order (before Kind.P no_p) (before Kind.D no_d))
            (stand_added ds (subst (Orderly at_start) k in_order) (subst (None Kind.P) k (before Kind.P no_p)) (subst (None Kind.D) k (before Kind.D no_d)))
            (as_many_added cs ds same) (fixed cs rest ds rest' split split' same no_t) (moves cs rest ds rest' split split' same no_t))
