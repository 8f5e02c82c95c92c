mod ClientTokens
