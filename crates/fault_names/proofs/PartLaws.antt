-- What is cut out of a list is a part of it.
use Rattle.std.proofs.Common.{◌≡◌, ℕ, ◌-◌, Bool, true, false, cond, nat_le, List, [], length, take, drop, sym, refl}
use Rattle.std.specs.Str.Iter.{HasSubslice}
use Rattle.std.proofs.lemmas.List.{take-append-drop}
use Rattle.basis.specs.declared.span.Span.{Span}
use Rattle.basis.specs.Names as basis
use Rattle.basis.specs.Names.{span_of}
use Rattle.rules.specs.declared.fault.Named.{Named}
use Rattle.rules.specs.declared.fault.Named.TheVariants.{Basis, Text}
use Rattle.fault_names.specs.FaultNames.{name_in, IsFromItsSource}

has_subslice_cut : (n m : ℕ) (xs : List ℕ) → HasSubslice xs (take n (drop m xs))
has_subslice_cut n m xs = (take m xs, drop n (drop m xs), sym (rw (take-append-drop n (drop m xs)) (take-append-drop m xs)))

has_subslice_either : (b : Bool) (xs part : List ℕ) → HasSubslice xs part → HasSubslice xs (cond b part [])
has_subslice_either true xs part h = h
has_subslice_either false xs part h = ([], xs, refl)

has_subslice_span : (s : Span) (xs : List ℕ) → HasSubslice xs (basis.part_of s xs)
has_subslice_span s xs = has_subslice_either (nat_le s.to (length xs)) xs _ (has_subslice_cut (s.to - s.from) s.from xs)

standing : (names script : List ℕ) (function : Named) → IsFromItsSource names script function (name_in names script function)
standing names script (Basis b) = has_subslice_span (span_of b) names
standing names script (Text w) = has_subslice_cut w.size w.place script

-- so a name that is the right one stands in the right list
pub stands : (names script : List ℕ) (function : Named) (name : List ℕ) → name ≡ name_in names script function → IsFromItsSource names script function name
stands names script function name e = rw e (standing names script function)
