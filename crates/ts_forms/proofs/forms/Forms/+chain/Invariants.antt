use Rattle.ts_forms.proofs.forms.Forms.+chain.Given as goal

-- a part has a smaller number
abbrev pub decreases-chain : goal.decreases-chain
decreases-chain l = l.i
