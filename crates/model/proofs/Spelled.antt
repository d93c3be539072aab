-- The bytes of a job are those of the commands that it reads.
use Prim.Native.Nat.{ℕ}
use mathlib.Core.Path.{◌≡◌, refl, sym, ap, ◌∙◌, subst}
use mathlib.Core.List.{List, [], ◌∷◌, ◌++◌, map, append_assoc}
use lib.ListN.{take, take-append-drop}
use Rattle.model.specs.Base.{join}
use Rattle.model.specs.Commands.{form_of, kind_of, width, Context}
use Rattle.model.specs.Rules.{engine}
use Rattle.model.specs.Standing.{command_of, command_bytes, Behind, Spells, Spelled}
use Rattle.model.proofs.Codes.{code_of}
use Rattle.model.proofs.Runs.{context, OnRuns, IfGoes, run_ind}
use Rattle.model.proofs.Sound.{engine_lawful}
use Rattle.model.proofs.Behind.{not_nil}

abbrev Each : OnRuns
Each q bs free at r = (before : List Context) (x : Context) → Behind r before x → Spells bs before x

here : (b : ℕ) (y x : Context) → kind_of b ≡ y.kind → y ≡ x → Spells (b ∷ y.rest) [] x
here b y x k e = subst (λ (z : Context). Spells (b ∷ y.rest) [] z) e (record { byte = b; kind = k; bytes = refl })

one : (b : ℕ) (y : Context) → kind_of b ≡ y.kind → (before : List Context) (x : Context) (after : List Context) → y ∷ [] ≡ before ++ (x ∷ after) → Spells (b ∷ y.rest) before x
one b y k [] x after e = here b y x k (cc)
one b y k (z ∷ ys) x after e = absurd (not_nil ys x after (cc))

goes : IfGoes engine Each
goes q b bs free at h z n r f [] x g = here b (context q b bs free) x refl (cc g.1)
goes q b bs free at h z n r f (y ∷ ys) x g =
    let t = context q b bs free in
    let s : t ≡ y = cc g.1 in
    let rest : r.contexts ≡ ys ++ (x ∷ g.0) = cc g.1 in
    let i = f ys x (g.0, rest) in
    let w = width (kind_of b) in
    let more = join (map (λ z. command_bytes (command_of z)) ys) in
    subst (λ (u : Context). Spells (b ∷ bs) (u ∷ ys) x) s (record {
      byte = i.byte;
      kind = i.kind;
      bytes = ap (λ (c : ℕ). c ∷ bs) (sym (code_of b h.named))
          ∙ ap (λ (l : List ℕ). (form_of (kind_of b)).code ∷ l)
          (sym (take-append-drop w bs) ∙ ap (λ (l : List ℕ). take w bs ++ l) i.bytes ∙ sym (append_assoc (take w bs) more (i.byte ∷ x.rest)));
    })

pub spelled : Spelled
spelled job room = run_ind engine engine_lawful Each (λ q free at before x g. absurd (not_nil before x g.0 g.1))
    (λ q b bs free at n before x g. one b (context q b bs free) refl before x g.0 g.1)
    (λ q b bs free at h z e before x g. one b (context q b bs free) refl before x g.0 g.1)
    goes (λ r. (before : List Context) (x : Context) → Behind r before x → Spells job before x) job room
    (λ l before x g. absurd (not_nil before x g.0 g.1)) (λ l m r f. f)
