use Rattle.ts_forms.proofs.forms.Forms.+collect_members.Given as goal

-- a part has a smaller number
abbrev pub decreases-collect_members : goal.decreases-collect_members
decreases-collect_members l = l.i
