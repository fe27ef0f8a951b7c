use Rattle.made_growths.proofs.factors.push_factors_at.Goals as goal

pub returns-in-Operand : goal.returns-in-Operand
returns-in-Operand c = rw c.in-Operand.is c.push_operand.ensures

pub returns-in-Power : goal.returns-in-Power
returns-in-Power c = rw c.in-Power.is c.push_power_factors.ensures

pub returns-in-Either : goal.returns-in-Either
returns-in-Either c = rw c.in-Either.is c.push_either.ensures

pub returns-in-Absolute : goal.returns-in-Absolute
returns-in-Absolute c = rw c.in-Absolute.is c.push_sign.ensures
