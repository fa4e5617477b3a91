use Rattle.std.proofs.Common.{rules, ◌≡◌, length, subst, ◌∙◌}
use Rattle.c_host.specs.Told.{accepted, refused, checked}
use Rattle.c_host.proofs.Telling.{found, not_found}
use Rattle.rehearsal.specs.Judged.{judgement}
use Rattle.c_host.proofs.whole.checked_so.Goals as goal

pub returns-in-Ok : goal.returns-in-Ok
returns-in-Ok c =
    let n : length c.deref_mut.result.now ≡ 4096 = search rules in
    subst (λ n. accepted ≡ checked (judgement c.args.text.now n)) n (found (judgement c.args.text.now (length c.deref_mut.result.now)) _ c.in-Ok.field-0 c.in-Ok.ensures.sound)

pub returns : goal.returns
returns c =
    let n : length c.deref_mut.result.now ≡ 4096 = search rules in
    c.refused.ensures ∙ subst (λ n. refused c.in-Err.refused ≡ checked (judgement c.args.text.now n)) n (not_found (judgement c.args.text.now (length c.deref_mut.result.now)) _ c.in-Err.refused c.in-Err.ensures.sound)
