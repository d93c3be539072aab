-- The engine's commands are those of the paper.
use Rattle.std.specs.Prelude.{ℕ, ◌≡◌, Bool, not, [], ◌∷◌, ltb, Option, Some, None, Result, Ok, Err}
use Rattle.model.specs.Commands as model
use Rattle.model.specs.Refusals.{refuse, first_of}
use Rattle.model.specs.declared.reason.Reason.{Reason}
use Rattle.model.specs.declared.reason.Reason.TheVariants.{NoCommand}
use Rattle.codec.specs.declared.kinds.Form.{Form}
use Rattle.codec.specs.declared.kinds.Kind.{Kind}
use Rattle.codec.specs.declared.kinds.Kind.TheVariants.{I, W, R, B, T, F, P, A, D, G, L, «V», C, N, E}

abbrev pub kind_is : Kind → model.Kind
kind_is I = model.Kind.I
kind_is W = model.Kind.W
kind_is R = model.Kind.R
kind_is B = model.Kind.B
kind_is T = model.Kind.T
kind_is F = model.Kind.F
kind_is P = model.Kind.P
kind_is A = model.Kind.A
kind_is D = model.Kind.D
kind_is G = model.Kind.G
kind_is L = model.Kind.L
kind_is «V» = model.Kind.«V»
kind_is C = model.Kind.C
kind_is N = model.Kind.N
kind_is E = model.Kind.E

-- the command that is told, none among them
abbrev pub kind_told : Option Kind → model.Kind
kind_told (Some k) = kind_is k
kind_told None = model.Kind.none

-- r is the command of byte b; or the refusal of a byte that is none
abbrev pub Decodes : ℕ → Result Kind Reason → Type 0
Decodes b (Ok k) = kind_is k ≡ model.kind_of b
Decodes b (Err r) = (r ≡ NoCommand) × (model.kind_of b ≡ model.Kind.none)

-- f says of command k what the definitions say of it
pub record Describes (k : model.Kind) (f : Form) : Type 0 where
  pub code : f.code ≡ (model.form_of k).code
  pub width : f.width ≡ model.width k
  pub last : f.last ≡ (model.form_of k).last
  pub query : f.query ≡ model.is_query_kind k

abbrev pub formed : ℕ → ℕ → ℕ → Bool → Form
formed code width last query = record { code = code; width = width; last = last; query = query }

-- 3, 4 and 5 for a command at this place with so many bytes behind its own: the first that applies, 0 where none does
abbrev pub early_refusal : model.Kind → ℕ → ℕ → ℕ
early_refusal k place rest =
    first_of (refuse 3 (model.is k model.Kind.none) ∷ refuse 4 (not (model.allowed k place)) ∷ refuse 5 (ltb rest (model.width k)) ∷ [])
