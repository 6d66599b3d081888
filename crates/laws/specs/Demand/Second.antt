-- Demand 2: from a sound heap a call leaves a sound one, and its numbers are true; from a FRESH done the tables are sound all along.
-- Assumes nothing.
use Rattle.rules.specs.Numbers.{TrueNumbers}
use Rattle.rules.specs.Demand2.{Demand2}
use Rattle.laws.specs.Sound.Facts.{ready_facts, facts_ready}
use Rattle.laws.specs.Calls.Did.{did_as}
use Rattle.laws.specs.Calls.Arguments.{fresh_only}
use Rattle.laws.specs.Demand.Step.{true_numbers}
use Rattle.laws.specs.Demand.Events.{did_sound, between_sound, begins_sound}

pub demand_2 : Demand2
demand_2 = record {
  keeps = λ call before lent after list answer d r. record {
    ready = facts_ready (did_sound (ready_facts r) d);
    numbers = λ n. did_as (TrueNumbers call before) d (true_numbers before r lent call (fresh_only call n));
  };
  always = λ h b l t. record {
    ready = λ g m. facts_ready (between_sound l (begins_sound b) t m);
    counts = λ g m c u. ((facts_ready (between_sound l (begins_sound b) t m)).sound.rule6 c u).0;
  };
}
