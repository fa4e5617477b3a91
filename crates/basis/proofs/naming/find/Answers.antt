use Rattle.std.proofs.Common.{◌≡◌, ◌++◌, rules}
use Rattle.basis.specs.Names.{named}
use Rattle.basis.specs.Numbers.{equalities, arithmetic, comparisons, logic, bitwise, exchange}
use Rattle.basis.proofs.LookUps.{either, exact}
use Rattle.basis.proofs.naming.find.Goals as goal

pub returns : goal.returns
returns c =
    let w = c.args.word.now in
    let two = either w equalities arithmetic _ _ c.equality_named.ensures (λ k. search rules) c.or_else.ensures in
    let three = either w (equalities ++ arithmetic) comparisons _ _ two (λ k. search rules) c.or_else-2.ensures in
    let four = either w ((equalities ++ arithmetic) ++ comparisons) logic _ _ three (λ k. search rules) c.or_else-3.ensures in
    let five = either w (((equalities ++ arithmetic) ++ comparisons) ++ logic) bitwise _ _ four (λ k. search rules) c.or_else-4.ensures in
    let e : c.or_else-5.result ≡ named w = either w ((((equalities ++ arithmetic) ++ comparisons) ++ logic) ++ bitwise) exchange _ _ five (λ k. search rules) c.or_else-5.ensures in
    record { value = e; exact = exact w _ e }
