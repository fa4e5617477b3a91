-- The element with a number, in a part of a list that a function was applied to.
use Rattle.std.proofs.Common.{◌≡◌, ℕ, ◌<◌, ◌≤◌, List, map, length, get_or, take, Some, ap, ◌∙◌, arith, length-take}
use Rattle.std.specs.List.{slice_get}
use Rattle.std.proofs.lemmas.List.{length-map, get_or-map, get_or-take}
use Rattle.std.proofs.lemmas.Option.{slice_get-get_or, slice_get_within}

module _ {X Y : Type 0} (f : X → Y) (xs : List X) (n : ℕ) (most : n ≤ length xs) where
  size : length (map f (take n xs)) ≡ n
  size = let l = length-map (take n xs) f in let m = length-take n xs in omega arith

  pub numbered : (k : ℕ) (d : X) → k < n → slice_get (map f (take n xs)) k ≡ Some (f (get_or xs k d))
  numbered k d low =
      let s = size in
      let t = length-take n xs in
      slice_get-get_or (map f (take n xs)) k (f d) (omega arith) ∙ ap Some (get_or-map f (take n xs) k d (f d) (omega arith) ∙ ap f (get_or-take n xs k d low))

  pub number_below : (k : ℕ) (y : Y) → slice_get (map f (take n xs)) k ≡ Some y → k < n
  number_below k y e = let s = size in let w = slice_get_within (map f (take n xs)) k y e in omega arith

  pub numbered_is : (k : ℕ) (y : Y) (d : X) → slice_get (map f (take n xs)) k ≡ Some y → f (get_or xs k d) ≡ y
  numbered_is k y d e = let g = numbered k d (number_below k y e) in cc
