use Rattle.std.proofs.Common.{refl, subst}
use Rattle.machine.proofs.Resting.{silent}
use Rattle.machine.specs.Mirrors.{Hands}
use Rattle.stepping.proofs.dispatch.hand.Goals as goal

pub returns-in-Test-clause-law : goal.returns-in-Test-clause-law
returns-in-Test-clause-law g c = λ P Z m₀ f K env a t H S.
    let m = g.S.CellStore.cells c.args.store.now in
    silent c.unprinted.ensures.same refl (c.hand_test.ensures.law P Z m₀ m f K env a t (subst (λ fr. Hands P Z m₀ f K env a t fr c.args.value c.args.machine.now m) c.in-Test.is H))

pub returns-in-Arm-clause-law : goal.returns-in-Arm-clause-law
returns-in-Arm-clause-law g c = λ P Z m₀ f K env a t H S.
    let m = g.S.CellStore.cells c.args.store.now in
    silent c.unprinted-in-Arm.ensures.same refl (c.hand_arm.ensures.law P Z m₀ m f K env a t (subst (λ fr. Hands P Z m₀ f K env a t fr c.args.value c.args.machine.now m) c.in-Arm.is H))

pub returns-in-Part-clause-law : goal.returns-in-Part-clause-law
returns-in-Part-clause-law g c = λ P Z m₀ f K env a t H S.
    let m = g.S.CellStore.cells c.args.store.now in
    silent c.unprinted-in-Part.ensures.same refl (c.hand_part.ensures.law P Z m₀ f K env a t (subst (λ fr. Hands P Z m₀ f K env a t fr c.args.value c.args.machine.now m) c.in-Part.is H))

pub returns-in-Binding-clause-law : goal.returns-in-Binding-clause-law
returns-in-Binding-clause-law g c = λ P Z m₀ f K env a t H S.
    let m = g.S.CellStore.cells c.args.store.now in
    silent c.unprinted-in-Binding.ensures.same refl (c.hand_binding.ensures.law P Z m₀ m f K env a t (subst (λ fr. Hands P Z m₀ f K env a t fr c.args.value c.args.machine.now m) c.in-Binding.is H))

pub returns-in-Leaving-clause-law : goal.returns-in-Leaving-clause-law
returns-in-Leaving-clause-law g c = λ P Z m₀ f K env a t H S.
    let m = g.S.CellStore.cells c.args.store.now in
    silent c.unprinted-in-Leaving.ensures.same refl (c.hand_leaving.ensures.law P Z m₀ f K env a t (subst (λ fr. Hands P Z m₀ f K env a t fr c.args.value c.args.machine.now m) c.in-Leaving.is H))

pub returns-in-Tested-clause-law : goal.returns-in-Tested-clause-law
returns-in-Tested-clause-law g c = λ P Z m₀ f K env a t H S.
    let m = g.S.CellStore.cells c.args.store.now in
    silent c.unprinted-in-Tested.ensures.same refl (c.hand_tested.ensures.law P Z m₀ f K env a t (subst (λ fr. Hands P Z m₀ f K env a t fr c.args.value c.args.machine.now m) c.in-Tested.is H))

pub returns-in-Field-clause-law : goal.returns-in-Field-clause-law
returns-in-Field-clause-law g c = λ P Z m₀ f K env a t H S.
    let m = g.S.CellStore.cells c.args.store.now in
    silent c.unprinted-in-Field.ensures.same refl (c.hand_field.ensures.law P Z m₀ f K env a t (subst (λ fr. Hands P Z m₀ f K env a t fr c.args.value c.args.machine.now m) c.in-Field.is H))

pub returns-in-Body-clause-law : goal.returns-in-Body-clause-law
returns-in-Body-clause-law g c = λ P Z m₀ f K env a t H S.
    let m = g.S.CellStore.cells c.args.store.now in
    let hands = subst (λ fr. Hands P Z m₀ f K env a t fr c.args.value c.args.machine.now m) c.in-Body.is H in
    silent c.unprinted-in-Body.ensures.same refl (c.hand_leaving-in-Body.ensures.body P Z m₀ f K env a t (search hands))

pub returns-in-Main-clause-law : goal.returns-in-Main-clause-law
returns-in-Main-clause-law g c = λ P Z m₀ f K env a t H S.
    let m = g.S.CellStore.cells c.args.store.now in
    silent c.unprinted-in-Main.ensures.same refl (c.hand_main.ensures.law P Z m₀ f K env a t (subst (λ fr. Hands P Z m₀ f K env a t fr c.args.value c.args.machine.now m) c.in-Main.is H))
