use Rattle.std.proofs.Common.{refl, ◌∙◌, arith}
use Rattle.std.proofs.lemmas.Bool.Decides.{nat_tests}
use Rattle.bit_bank.proofs.Stand.{no_pairs}
use Rattle.bit_bank.proofs.Puts.{keeps_rows}
use Rattle.bit_bank.proofs.calls.BitBankBank.drop_back.Goals as goal

pub returns : goal.returns
returns c = λ _.
    let b = c.args.self.now in
    record {
      keeps = keeps_rows b b.front c.clear.new.words;
      front_stays = refl;
      back_is = no_pairs b.rows c.clear.new.words (λ a h. c.clear.ensures a ∙ grind (arith, nat_tests));
    }
