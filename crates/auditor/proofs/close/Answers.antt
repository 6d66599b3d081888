use Rattle.std.proofs.Common.{rules, ◌≡◌, length, arith}
use Rattle.std.proofs.lemmas.Result.{on_ok_weaker}
use Rattle.auditor.proofs.Going.{last_told}
use Rattle.auditor.proofs.close.Goals as goal

pub returns : goal.returns
returns g c =
    let out : length c.finish.new.room.out ≡ 4160 = search rules in
    on_ok_weaker c.write.result
    (last_told _ c.in_ok-last.last _ _ _ _ _ _ _ c.in_ok-last.ensures.told c.in_ok-last.ensures.taken c.write_totals-written.ensures (omega (arith, out))
    c.write_totals-written.auto.out)
    c.write.ensures
