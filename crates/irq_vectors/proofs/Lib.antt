mod FirstUndue
