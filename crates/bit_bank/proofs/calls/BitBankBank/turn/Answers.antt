use Rattle.std.proofs.Common.{◌∙◌, arith}
use Rattle.std.proofs.lemmas.Bool.Decides.{nat_tests}
use Rattle.bit_bank.proofs.Stand.{no_pairs, same_words}
use Rattle.bit_bank.proofs.Puts.{keeps_rows}
use Rattle.bit_bank.proofs.calls.BitBankBank.turn.Goals as goal

pub returns : goal.returns
returns c = λ _.
    let b = c.args.self.now in
    record {
      keeps = keeps_rows b c.copy.new.dst c.clear.new.words;
      front_is = same_words b.rows c.copy.new.dst b.back (λ a h. c.copy.ensures a ∙ grind (arith, nat_tests));
      back_is = no_pairs b.rows c.clear.new.words (λ a h. c.clear.ensures a ∙ grind (arith, nat_tests));
    }
