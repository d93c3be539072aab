-- Numbers of cubes, worked out.
use mathlib.Core.Path.{◌≡◌, refl}
use mathlib.Core.List.{[], ◌∷◌}
use Rattle.model.specs.Numbers.{digit_of, cube_number_to, cube_number, spread_to, spread}

-- no literal; input 0 at 0 and at 1; input 1 at 0; input 0 at 0 and input 2 at 1; all eight inputs at 0 and at 1
pub marked_numbers : (cube_number 0 0 ∷ cube_number 1 0 ∷ cube_number 1 1 ∷ cube_number 2 0 ∷ cube_number 5 4 ∷ cube_number 255 0 ∷ cube_number 255 255 ∷ []) ≡ (0 ∷ 1 ∷ 2 ∷ 3 ∷ 19 ∷ 3280 ∷ 6560 ∷ [])
unfolding cube_number cube_number_to digit_of
marked_numbers = refl

pub marked_spreads : (spread 0 ∷ spread 1 ∷ spread 2 ∷ spread 3 ∷ spread 128 ∷ spread 255 ∷ []) ≡ (0 ∷ 1 ∷ 3 ∷ 4 ∷ 2187 ∷ 3280 ∷ [])
unfolding spread spread_to
marked_spreads = refl
